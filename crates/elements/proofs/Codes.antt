-- A code of four digits: what is written is read back, and what is read stands there.
-- Assumes nothing.
use mathlib.Core.Path.{◌≡◌, refl, sym, ◌∙◌}
use mathlib.Core.Bool.{true}
use mathlib.Core.List.{List, [], ◌∷◌}
use Prim.Native.Nat.{ℕ}
use native.Mathlib.Nat.{add-zero}
use Rattle.bits.proofs.Numbers.{Bits}
use Rattle.words.proofs.Laws.{ok_place, ok_value}
use Rattle.fields.specs.Fields.{Reading, whole_number}
use Rattle.fields.specs.Encodings.{whole_bits, whole_fits}
use Rattle.elements.specs.Arguments.{digit, digits_fit, code_fits_of, digits_bits, code_at}
use Rattle.elements.proofs.Standing.{Stands, stands_join, stands_split, stands_as, stands_nothing}
use Rattle.elements.proofs.Whole.{ranged, whole_reads, whole_stands}
use Rattle.elements.proofs.Steps.{then_is}
use Rattle.std.specs.Prelude.{Ok}

-- a digit, and those after it
digit_reads : (l : List ℕ) (at next d : ℕ) (ds : List ℕ) (k : ℕ → ℕ → Reading (List ℕ)) (o : Reading (List ℕ))
    → Stands l at (digits_fit (d ∷ ds)) (digits_bits (d ∷ ds)) next
    → ((m : ℕ) → Stands l m (digits_fit ds) (digits_bits ds) next → k d m ≡ o) → digit l at k ≡ o
unfolding digits_fit digits_bits
digit_reads l at next d ds k o s go =
    let p = stands_split l at next _ _ (whole_bits 0 7 d) _ s in
    rw (whole_reads l at 0 7 d _ (ranged 0 7 tt tt) p.0) (go _ p.1)

digit_stands : {R : Type 0} (l : List ℕ) (at : ℕ) (k : ℕ → ℕ → Reading (List ℕ)) (ds : List ℕ) (next : ℕ) → Bits l → ((d m : ℕ) → Stands l at (whole_fits 0 7 d) (whole_bits 0 7 d) m → k d m ≡ Ok (ds, next) → R) → digit l at k ≡ Ok (ds, next) → R
digit_stands l at k ds next b go e =
    then_is (whole_number l at 0 7) k (ds, next)
    (λ (d m : ℕ) (p : whole_number l at 0 7 ≡ Ok (d, m)) (q : k d m ≡ Ok (ds, next)). go d m (whole_stands l at 0 7 d m b p) q)
    e

-- after the last digit
ended : (l : List ℕ) (m next : ℕ) → Stands l m (digits_fit []) (digits_bits []) next → m ≡ next
unfolding digits_bits
ended l m next s = sym (s.place ∙ add-zero m)

last_stands : (l : List ℕ) (m next d : ℕ) → Stands l m (whole_fits 0 7 d) (whole_bits 0 7 d) next
    → Stands l m (digits_fit (d ∷ [])) (digits_bits (d ∷ [])) next
unfolding digits_fit digits_bits
last_stands l m next d s = stands_join l m next next _ _ _ [] s (stands_nothing l next true refl)

more_stands : (l : List ℕ) (at m next d : ℕ) (ds : List ℕ) → Stands l at (whole_fits 0 7 d) (whole_bits 0 7 d) m
    → Stands l m (digits_fit ds) (digits_bits ds) next → Stands l at (digits_fit (d ∷ ds)) (digits_bits (d ∷ ds)) next
unfolding digits_fit digits_bits
more_stands l at m next d ds s t = stands_join l at m next _ _ _ _ s t

pub code_reads : (l : List ℕ) (at next a b c d : ℕ)
    → Stands l at (digits_fit (a ∷ b ∷ c ∷ d ∷ [])) (digits_bits (a ∷ b ∷ c ∷ d ∷ [])) next
    → code_at l at ≡ Ok (a ∷ b ∷ c ∷ d ∷ [], next)
unfolding code_at
code_reads l at next a b c d s =
    digit_reads l at next a _ _ _ s
    (λ (m : ℕ) (s : _). digit_reads l m next b _ _ _ s
    (λ (m : ℕ) (s : _). digit_reads l m next c _ _ _ s
    (λ (m : ℕ) (s : _). digit_reads l m next d _ _ _ s (λ (m : ℕ) (s : _). rw (ended l m next s)))))

of_four : (l : List ℕ) (at next a b c d : ℕ)
    → Stands l at (digits_fit (a ∷ b ∷ c ∷ d ∷ [])) (digits_bits (a ∷ b ∷ c ∷ d ∷ [])) next
    → Stands l at (code_fits_of (a ∷ b ∷ c ∷ d ∷ [])) (digits_bits (a ∷ b ∷ c ∷ d ∷ [])) next
unfolding code_fits_of
of_four l at next a b c d s = stands_as l at next _ _ _ s.fits s

pub code_stands : (l : List ℕ) (at next : ℕ) (ds : List ℕ) → Bits l → code_at l at ≡ Ok (ds, next)
    → Stands l at (code_fits_of ds) (digits_bits ds) next
unfolding code_at
code_stands l at next ds bits e =
    digit_stands l at _ ds next bits
    (λ (a p : ℕ) (sa : Stands l at (whole_fits 0 7 a) (whole_bits 0 7 a) p) (ea : _). digit_stands l p _ ds next bits
    (λ (b q : ℕ) (sb : Stands l p (whole_fits 0 7 b) (whole_bits 0 7 b) q) (eb : _). digit_stands l q _ ds next bits
    (λ (c r : ℕ) (sc : Stands l q (whole_fits 0 7 c) (whole_bits 0 7 c) r) (ec : _). digit_stands l r _ ds next bits
    (λ (d n : ℕ) (sd : Stands l r (whole_fits 0 7 d) (whole_bits 0 7 d) n) (ed : Ok (a ∷ b ∷ c ∷ d ∷ [], n) ≡ Ok (ds, next)).
    let i : n ≡ next = ok_place ed in
    let j : a ∷ b ∷ c ∷ d ∷ [] ≡ ds = ok_value ed in
    rw (← i, ← j) (of_four l at n a b c d (more_stands l at p n a _ sa
    (more_stands l p q n b _ sb (more_stands l q r n c _ sc (last_stands l r n d sd))))))
    ec)
    eb)
    ea)
    e
