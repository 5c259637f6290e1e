-- Two recordings compared, as `peat_compare` has it: six bytes of counts, and the ways out of the call.
-- Assumes nothing.
use mathlib.Core.Path.{◌≡◌, refl, ap, sym, ◌∙◌}
use mathlib.Core.Bool.{cond}
use mathlib.Core.List.{List, [], ◌∷◌}
use Prim.Native.Nat.{ℕ}
use native.Mathlib.Omega.{arith}
use lib.ListN.{length, set}
use Rattle.envelope.specs.Envelopes.{most_bits}
use Rattle.recordings.specs.Showing.{Shown, shown, compared}
use Rattle.recordings.specs.declared.Compared.{Compared}
use Rattle.layout.specs.Calls.{Sent, sent}
use Rattle.card.specs.Comparing.{comparison, left_by, tells_by}

-- every byte of six is set
pub six : (l : List ℕ) (a b c d e f : ℕ) → length l ≡ 6
    → set (set (set (set (set (set l 0 a) 1 b) 2 c) 3 d) 4 e) 5 f ≡ a ∷ b ∷ c ∷ d ∷ e ∷ f ∷ []
six [] a b c d e f h = absurd (omega arith)
six (p ∷ []) a b c d e f h = absurd (omega arith)
six (p ∷ q ∷ []) a b c d e f h = absurd (omega arith)
six (p ∷ q ∷ r ∷ []) a b c d e f h = absurd (omega arith)
six (p ∷ q ∷ r ∷ s ∷ []) a b c d e f h = absurd (omega arith)
six (p ∷ q ∷ r ∷ s ∷ t ∷ []) a b c d e f h = absurd (omega arith)
six (p ∷ q ∷ r ∷ s ∷ t ∷ u ∷ []) a b c d e f h = refl
six (p ∷ q ∷ r ∷ s ∷ t ∷ u ∷ v ∷ l) a b c d e f h = absurd (omega arith)

-- what the call leaves, from what its two parts leave
pub leaves_both : (n : ℕ) (r : Compared) (x y z counts left : List ℕ) (s : Shown) → shown r x y z ≡ s
    → sent n left ≡ tells_by counts r → comparison n x y z left ≡ left_by s (tells_by counts s.answer)
leaves_both n r x y z counts left s p q =
    let m : n ≡ (tells_by counts r).number = ap (λ (v : Sent). v.number) q in
    let l : left ≡ (tells_by counts r).bytes = ap (λ (v : Sent). v.bytes) q in
    rw (← p, m, l)
