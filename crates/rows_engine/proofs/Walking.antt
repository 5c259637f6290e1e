-- Laws of the walk.
-- Assumes nothing.
use mathlib.Core.Path.{◌≡◌, refl, ap, sym, ◌∙◌}
use mathlib.Core.Bool.{Bool, true, false, cond}
use mathlib.Core.List.{List, [], ◌∷◌}
use Prim.Native.Nat.{ℕ, zero, suc, ◌+◌, ◌<◌, ◌≤◌}
use native.Mathlib.Omega.{arith}
use lib.ListN.{length, get_or, drop}
use Rattle.control.specs.declared.Side.{Side}
use Rattle.control.specs.declared.Control.{Control}
use Rattle.rows.specs.declared.Row.{Row}
use Rattle.rows.specs.Table.{nothing_done, rows}
use Rattle.rows.specs.Engine.{fits, walk}
use Rattle.rows_engine.specs.Packing.{row_of_number}
use Rattle.rows_engine.proofs.Digits.{row_at}

drop_cons : (l : List Row) (i : ℕ) (d : Row) → i < length l → drop i l ≡ get_or l i d ∷ drop (suc i) l
drop_cons [] i d h = absurd (omega arith)
drop_cons (x ∷ l) zero d h = refl
drop_cons (x ∷ l) (suc i) d h = drop_cons l i d (omega arith)

pub count : length rows ≡ 98
unfolding rows
count = refl

walk_cons : (x : Row) (l : List Row) (sd : Side) (c : Control) (t k : ℕ)
    → walk (x ∷ l) sd c t k ≡ cond (fits x sd c t k) x.out (walk l sd c t k)
unfolding walk
walk_cons x l sd c t k = refl

at_row : (sd : Side) (c : Control) (t k i : ℕ) → i < 98
    → walk (drop i rows) sd c t k ≡ cond (fits (row_at i) sd c t k) (row_at i).out (walk (drop (suc i) rows) sd c t k)
unfolding row_at
at_row sd c t k i h = ap (λ (l : List Row). walk l sd c t k)
    (drop_cons rows i (row_of_number 0) (omega (arith, count, h))) ∙ walk_cons (get_or rows i (row_of_number 0))
    (drop (suc i) rows) sd c t k

pub found : (sd : Side) (c : Control) (t k i : ℕ) (x : Row) (b : Bool) → i < 98
    → walk (drop i rows) sd c t k ≡ walk rows sd c t k → x ≡ row_at i → b ≡ fits x sd c t k → b ≡ true
    → x.out ≡ walk rows sd c t k
found sd c t k i x b h v e f g =
    ap (λ (y : Row). y.out) e ∙ ap (λ (z : Bool). cond z (row_at i).out (walk (drop (suc i) rows) sd c t k))
    (sym g ∙ f ∙ ap (λ (y : Row). fits y sd c t k) e) ∙ sym (at_row sd c t k i h) ∙ v

pub turn : (sd : Side) (c : Control) (t k i : ℕ) (x : Row) (b : Bool) → i < 98
    → walk (drop i rows) sd c t k ≡ walk rows sd c t k → x ≡ row_at i → b ≡ fits x sd c t k → b ≡ false
    → walk (drop (i + 1) rows) sd c t k ≡ walk rows sd c t k
turn sd c t k i x b h v e f g =
    let s : i + 1 ≡ suc i = omega arith in
    ap (λ (m : ℕ). walk (drop m rows) sd c t k) s ∙ ap
    (λ (z : Bool). cond z (row_at i).out (walk (drop (suc i) rows) sd c t k))
    (sym g ∙ f ∙ ap (λ (y : Row). fits y sd c t k) e) ∙ sym (at_row sd c t k i h) ∙ v

none_left : (sd : Side) (c : Control) (t k : ℕ) → nothing_done ≡ walk (drop 98 rows) sd c t k
unfolding walk rows
none_left sd c t k = refl

pub done : (sd : Side) (c : Control) (t k i : ℕ) → i ≤ 98 → 98 ≤ i → walk (drop i rows) sd c t k ≡ walk rows sd c t k
    → nothing_done ≡ walk rows sd c t k
done sd c t k i h g v = let e : 98 ≡ i = omega arith in none_left sd c t k ∙ ap (λ (m : ℕ). walk (drop m rows) sd c t k) e ∙ v
