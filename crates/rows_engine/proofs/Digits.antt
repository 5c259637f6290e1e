-- The rows as numbers.
-- Assumes nothing.
use mathlib.Core.Path.{◌≡◌, refl, sym, ap, ◌∙◌}
use mathlib.Core.List.{List, map}
use Prim.Native.Nat.{ℕ, ◌+◌, ◌*◌}
use lib.ListN.{get_or, get_or-map}
use Rattle.rows.specs.declared.Row.{Row}
use Rattle.rows.specs.Table.{rows}
use Rattle.rows_engine.specs.Packing.{row_of_number}

-- and the number of a row
unfoldable pub number_of_row : Row → ℕ
number_of_row x =
    let o = x.out in
    let front = (((((x.mark * 4 + x.side) * 4 + x.dsc) * 256 + x.event) * 16 + x.state) * 256 + x.condition) * 16 + o.next in
    (((((((((front * 4 + o.dsc) * 4 + o.timer) * 4 + o.user) * 4 + o.keeps) * 16 + o.refusal) * 16 + o.sends) * 16
    + o.reason) * 16 + o.tells) * 16 + o.why)

unfoldable pub numbers : List ℕ
numbers = map number_of_row rows

numbers_rows : map row_of_number numbers ≡ rows
unfolding row_of_number numbers number_of_row rows
numbers_rows = refl

-- a row by its place
unfoldable pub row_at : ℕ → Row
row_at i = get_or rows i (row_of_number 0)

pub number_row : (i : ℕ) → row_of_number (get_or numbers i 0) ≡ row_at i
unfolding row_at row_of_number
number_row i = sym (get_or-map row_of_number numbers i 0) ∙ ap (λ (l : List Row). get_or l i (row_of_number 0)) numbers_rows
