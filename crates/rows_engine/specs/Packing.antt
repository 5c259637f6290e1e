-- A row as one number: each column at its place.
use Rattle.std.specs.Prelude.{ℕ, ◌/◌, ◌%◌, get_or}
use Rattle.rows.specs.declared.Row.{Row}
use Rattle.rows.specs.Table.{row, out, rows}

unfoldable pub row_of_number : ℕ → Row
row_of_number x =
    row (x / 18014398509481984 % 4) (x / 17592186044416 % 256) (x / 1099511627776 % 16) (x / 4503599627370496 % 4) (x / 4294967296 % 256)
    (out (x / 268435456 % 16) (x / 67108864 % 4) (x / 16777216 % 4) (x / 4194304 % 4) (x / 1048576 % 4) (x / 65536 % 16) (x / 4096 % 16) (x / 256 % 16) (x / 16 % 16) (x % 16))
    (x / 72057594037927936 % 16)
