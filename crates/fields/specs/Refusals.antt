-- The numbers that refusals carry: document 01, "The numbers a refusal carries", 10 to 17; and the place beside it (document 02, E1).
use Rattle.std.specs.Prelude.{ℕ, ◌+◌, ◌*◌, ◌%◌}
use Rattle.fields.specs.declared.Fault.{Fault}
use Rattle.fields.specs.declared.Refusal.{Refusal}
use Rattle.fields.specs.declared.Fault.TheVariants.{Short, Range, Extension, LengthForm, Limit, Tail, NotCarried, Default}

unfoldable pub number_of : Fault → ℕ
number_of Short = 10
number_of Range = 11
number_of Extension = 12
number_of LengthForm = 13
number_of Limit = 14
number_of Tail = 15
number_of NotCarried = 16
number_of Default = 17

-- What an exported call answers that refuses for a fault in bits, from the lowest bit on:
--    8 bits  the number of the fault
--   56 bits  the place
unfoldable pub packed : Refusal → ℕ
packed r = number_of r.fault + 256 * (r.at % 72057594037927936)
