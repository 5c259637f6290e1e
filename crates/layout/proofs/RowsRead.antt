-- The elements of a message read one after another: their places put together, and how many characters each has and where they begin.
-- Assumes nothing.
use mathlib.Core.Path.{◌≡◌, refl, sym, ap, ◌∙◌}
use mathlib.Core.Bool.{true, false}
use mathlib.Core.List.{List, [], ◌∷◌, ◌++◌, append_assoc, append-nil}
use Prim.Native.Nat.{ℕ, suc, ◌+◌, ◌-◌, ◌*◌, ◌≤◌, ◌<◌}
use native.Mathlib.Omega.{arith}
use native.Mathlib.Numerals.{add-one}
use lib.Dec.{leb}
use lib.ListN.{length, drop, set, get_or, replicate, length-append, length-set, length-replicate}
use lib.Seq.{sets}
use Rattle.bits.proofs.Numbers.{Bits}
use Rattle.fields.specs.Refusals.{packed}
use Rattle.fields.specs.Fields.{Reading, refusal}
use Rattle.fields.specs.declared.Fault.TheVariants as fault
use Rattle.fields.specs.declared.Refusal.{Refusal}
use Rattle.kinds.specs.declared.Direction.{Direction}
use Rattle.elements.specs.declared.values.Element.{Element}
use Rattle.elements.specs.OneElement.{bare, element_at, text_of}
use Rattle.inner.specs.declared.values.Header.{Header}
use Rattle.inner.specs.Places.{row_at, text_at}
use Rattle.inner.specs.Messages.{room_least}
use Rattle.inner.proofs.Filling.{behind, behind_behind, filled_start, row_suc, row_zero}
use Rattle.inner.proofs.Rows.{row_is}
use Rattle.inner.proofs.Characters.{characters_most, row_few}
use Rattle.layout.specs.Layout.{places_bytes, message_bytes, front_bytes}
use Rattle.layout.specs.Calls.{told, told_as, told_of}
use Rattle.layout.specs.Rows.{texts_of, row_told_of}
use Rattle.layout.proofs.Laying.{laid_whole}
use Rattle.layout.proofs.Texts.{element_inside, text_suc, text_none, texts_more, inside_more, copied_front}
use Rattle.std.specs.Prelude.{Err, Ok, Result}
use Rattle.elements.proofs.Steps.{never}
use Rattle.inner.specs.declared.values.Unopened.{Unopened}

-- the first behind others is put anew
set_behind : (es fs : List Element) (x y : Element) → set (es ++ (x ∷ fs)) (length es) y ≡ es ++ (y ∷ fs)
set_behind [] fs x y = refl
set_behind (e ∷ es) fs x y = ap (λ (l : List Element). e ∷ l) (set_behind es fs x y)

-- ---- the loop: i elements were read, and p is the place after them

pub record Gathered (d : Direction) (l : List ℕ) (at n i p : ℕ) (ps : List Element) (cs fs : List ℕ) : Type 0 where
  pub es : List Element
  pub many : length es ≡ i
  pub read : behind es (row_at d l p (n - i)) ≡ row_at d l at n
  pub filled : ps ≡ es ++ replicate (5 - i) (bare 0)
  pub five : length ps ≡ 5
  pub counts : length cs ≡ 5
  pub starts : length fs ≡ 5
  pub text : texts_of l cs fs i ++ text_at d l p (n - i) ≡ text_at d l at n
  pub inside : (k : ℕ) → k < i → get_or fs k 0 + 7 * get_or cs k 0 ≤ length l

pub reading_start : (d : Direction) (l : List ℕ) (at n : ℕ) → Gathered d l at n 0 at (replicate 5 (bare 0)) (replicate 5 0) (replicate 5 0)
unfolding texts_of
reading_start d l at n =
    let e : n - 0 ≡ n = omega arith in
    record {
      es = [];
      many = refl;
      read = (filled_start d l at n).read;
      filled = refl;
      five = refl;
      counts = refl;
      starts = refl;
      text = rw e;
      inside = λ (k : ℕ) (h : k < 0). omega arith;
    }

module _ (d : Direction) (l : List ℕ) (at n i p : ℕ) (ps : List Element) (cs fs : List ℕ) (inv : Gathered d l at n i p ps cs fs) where
  module _ (h : i < n) (f : Reading Element) (e : f ≡ element_at d l p) where
    one_more : n - i ≡ suc (n - suc i)
    one_more = omega arith

    pub reading_bad : (r : Refusal) → f ≡ Err r → row_at d l at n ≡ Err r
    reading_bad r q = sym inv.read ∙ rw (one_more, row_suc, ← e, q)

    module _ (five : n ≤ 5) (bits : Bits l) (x : Element) (q : ℕ) (g : f ≡ Ok (x, q)) where
      its_text : text_at d l p (n - i) ≡ text_of l x q ++ text_at d l q (n - suc i)
      its_text = rw (one_more, text_suc, ← e, g)

      its_inside : q - 7 * x.characters + 7 * x.characters ≤ length l
      its_inside = let o = element_inside d l p q x f bits e g in let a = o.after in let m = o.within in omega arith

      put : set ps i x ≡ (inv.es ++ (x ∷ [])) ++ replicate (5 - suc i) (bare 0)
      put =
          let m = inv.many in
          let k : 5 - i ≡ suc (5 - suc i) = omega (arith, h, five) in
          let w : ps ≡ inv.es ++ (bare 0 ∷ replicate (5 - suc i) (bare 0)) = rw k at inv.filled in
          rw (w, ← m, set_behind, append_assoc)

      pub reading_turn : Gathered d l at n (i + 1) q (set ps i x) (set cs i x.characters) (set fs i (q - 7 * x.characters))
      reading_turn =
          let a : behind inv.es (behind (x ∷ []) (row_at d l q (n - suc i))) ≡ row_at d l at n = rw
          (one_more, row_suc, ← e, g) at inv.read in
          let m = inv.many in
          let o = length-append inv.es (x ∷ []) in
          let u = inv.counts in
          let v = inv.starts in
          let k : texts_of l cs fs i ++ (text_of l x q ++ text_at d l q (n - suc i)) ≡ text_at d l at n = rw its_text at
          inv.text in
          rw (add-one i) (record {
            es = inv.es ++ (x ∷ []);
            many = omega arith;
            read = rw (← behind_behind inv.es (x ∷ []) (row_at d l q (n - suc i))) a;
            filled = put;
            five = length-set ps i x ∙ inv.five;
            counts = length-set cs i x.characters ∙ inv.counts;
            starts = length-set fs i (q - 7 * x.characters) ∙ inv.starts;
            text = rw (
              texts_more l cs fs i x.characters (q - 7 * x.characters) (omega arith) (omega arith),
              append_assoc,
            ) k;
            inside = inside_more l cs fs i x.characters (q - 7 * x.characters) (omega arith) (omega arith) its_inside inv.inside;
          })

  -- ---- all were read

  module _ (h : n ≤ i) (g : i ≤ n) (five : n ≤ 5) (bits : Bits l) where
    all : i ≡ n
    all = omega arith

    pub reading_row : row_at d l at n ≡ Ok (inv.es, p)
    reading_row =
        let k : n - n ≡ 0 = omega arith in
        let z : Ok (inv.es ++ [], p) ≡ row_at d l at n = rw (all, k, row_zero) at inv.read in
        rw (← z, append-nil)

    pub reading_text : texts_of l cs fs n ≡ text_at d l at n
    reading_text =
        let k : n - n ≡ 0 = omega arith in
        rw (all, k, text_none, append-nil) at inv.text

    pub reading_few : length (texts_of l cs fs n) ≤ characters_most
    reading_few =
        let r = row_is d l n at p inv.es bits reading_row in
        let a = row_few d inv.es (text_at d l at n) r.stands.fits in
        let c = r.count in
        rw reading_text (omega arith)

    pub reading_inside : (k : ℕ) → k < n → get_or fs k 0 + 7 * get_or cs k 0 ≤ length l
    reading_inside k m = inv.inside k (let e = all in omega arith)

    pub reading_places : ps ≡ inv.es ++ replicate (5 - length inv.es) (bare 0)
    reading_places = rw inv.many inv.filled

-- ---- the ways out

pub few_taken : (c k : ℕ) → ◌≡◌ {A = Result ℕ Unopened} (Ok c) (Ok k) → c ≤ 1280 → k ≤ 1280
few_taken c k h b = let j : c ≡ k = cc in omega arith

pub none_taken : (r : Unopened) (k : ℕ) → ◌≡◌ {A = Result ℕ Unopened} (Err r) (Ok k) → k ≤ 1280
none_taken r k h = never (cc)

module _ (d : Direction) (l : List ℕ) (at n i p : ℕ) (ps : List Element) (cs fs : List ℕ) (inv : Gathered d l at n i p ps cs fs) (h : Header) (m t : List ℕ) where
  pub row_refused : i < n → (f : Reading Element) → f ≡ element_at d l p → (r : Refusal) → f ≡ Err r
      → told (packed r) m t ≡ row_told_of d l h at n m t
  unfolding row_told_of told_of told_as
  row_refused g f e r q = rw (reading_bad d l at n i p ps cs fs inv g f e r q)

  module _ (over : n ≤ i) (most : i ≤ n) (five : n ≤ 5) (bits : Bits l) where
    row : row_at d l at n ≡ Ok (inv.es, p)
    row = reading_row d l at n i p ps cs fs inv over most five bits

    pub row_tail : leb (p + 1) (length l) ≡ true → told (packed (refusal p fault.Tail)) m t ≡ row_told_of d l h at n m t
    unfolding row_told_of told_of told_as
    row_tail g = rw (row, g)

    taken : leb (p + 1) (length l) ≡ false → (c : ℕ) (z v : List ℕ)
        → z ≡ front_bytes h n ++ places_bytes (inv.es ++ replicate (5 - length inv.es) (bare 0)) → c ≡ length (text_at d l at n)
        → v ≡ text_at d l at n ++ drop (length (text_at d l at n)) t → told (256 * c) z v ≡ row_told_of d l h at n m t
    unfolding row_told_of told_of told_as message_bytes
    taken g c z v a k w = rw (row, g, a, k, w)

    pub row_taken : leb (p + 1) (length l) ≡ false → length m ≡ 132 → room_least ≤ length t → (a y z : List ℕ) → a ≡ front_bytes h n
        → y ≡ sets m 0 a → z ≡ sets y 12 (places_bytes ps) → (c : ℕ) (v : List ℕ)
        → (c ≡ length (texts_of l cs fs n)) × (v ≡ sets t 0 (texts_of l cs fs n)) → told (256 * c) z v ≡ row_told_of d l h at n m t
    row_taken g sized room a y z f q k c v o =
        let e : List Element = replicate (5 - length inv.es) (bare 0) in
        let many = inv.many in
        let x = length-append inv.es e in
        let w = length-replicate (5 - length inv.es) (bare 0) in
        let text = reading_text d l at n i p ps cs fs inv over most five bits in
        let few : length (text_at d l at n) ≤ characters_most = rw text at
        (reading_few d l at n i p ps cs fs inv over most five bits) in
        taken g c z v
        (laid_whole m a y z h n (inv.es ++ e) sized (omega arith) f q
        (k ∙ ap (λ (x : List Element). sets y 12 (places_bytes x)) (reading_places d l at n i p ps cs fs inv over most five bits)))
        (o.0 ∙ ap length text) (o.1 ∙ ap (sets t 0) text ∙ copied_front t (text_at d l at n) (omega arith))
