-- Bytes that are a message, and a message put into its range.
-- Assumes nothing.
use mathlib.Core.Path.{◌≡◌, refl, ap, sym, ◌∙◌}
use mathlib.Core.Bool.{Bool, true, false, cond, ◌&&◌}
use mathlib.Core.List.{List, [], ◌∷◌, ◌++◌}
use Prim.Native.Nat.{ℕ, suc, ◌+◌, ◌*◌}
use native.Mathlib.Omega.{arith}
use borrow.Author.Tests.{eqb-true}
use lib.Dec.{eqb}
use lib.ListN.{length, drop, length-append}
use lib.Seq.{sets}
use Rattle.words.proofs.Laws.{both_left, both_right}
use Rattle.elements.specs.declared.values.Element.{Element}
use Rattle.inner.specs.declared.values.Header.{Header}
use Rattle.inner.specs.declared.values.Message.{Message}
use Rattle.layout.specs.Layout.{front_bytes, places_bytes, message_bytes, front_stands, places_stand, message_stands}
use Rattle.layout.proofs.Copied.{sets_append, sets_whole}
use Rattle.layout.proofs.InOrder.{bytes_cons, length_place}
use Rattle.layout.proofs.Pieces.{length_front}

-- the parts of bytes that are a message
pub laid_is : (b : List ℕ) → message_stands b ≡ true → (length b ≡ 132) × (front_stands b ≡ true) × (places_stand 5 (drop 12 b) ≡ true)
unfolding message_stands
laid_is b h =
    let q = both_left (eqb (length b) 132 && front_stands b) (places_stand 5 (drop 12 b)) h in (
      eqb-true (length b) 132 (both_left (eqb (length b) 132) (front_stands b) q),
      both_right (eqb (length b) 132) (front_stands b) q,
      both_right (eqb (length b) 132 && front_stands b) (places_stand 5 (drop 12 b)) h,
    )

-- ---- storing

pub length_places : (es : List Element) → length (places_bytes es) ≡ 24 * length es
unfolding places_bytes
length_places [] = refl
length_places (e ∷ es) =
    let n = length_places es in
    let m : 24 * suc (length es) ≡ 24 + 24 * length es = omega arith in
    rw (bytes_cons, length-append, length_place, n, m)

pub length_message : (m : Message) → length m.places ≡ 5 → length (message_bytes m) ≡ 132
unfolding message_bytes
length_message m five = rw (length-append, length_front, length_places, five)

-- the front and the places put into a range of their size
pub laid_whole : (b a y z : List ℕ) (h : Header) (n : ℕ) (ps : List Element) → length b ≡ 132 → length ps ≡ 5 → a ≡ front_bytes h n
    → y ≡ sets b 0 a → z ≡ sets y 12 (places_bytes ps) → z ≡ front_bytes h n ++ places_bytes ps
laid_whole b a y z h n ps sized five f g k =
    let c : length a ≡ 12 = ap length f ∙ length_front h n in
    let w : length (a ++ places_bytes ps) ≡ 132 = rw (length-append, c, length_places, five) in
    let both : z ≡ sets b 0 (a ++ places_bytes ps) = rw (sets_append b 0 a (places_bytes ps), c, ← g) k in
    both ∙ sets_whole b _ (sized ∙ sym w) ∙ ap (λ (x : List ℕ). x ++ places_bytes ps) f
