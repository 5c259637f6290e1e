-- Two centres on the pages of replay (crate replay, forwards.rt; docs/HOST.md, "A recorded day"). Of a page: state, number, power, what waits to be shown, what has
-- not left, and the entries are at places 0, 2, 4, 5, 6 and 7. The rules are those of rules.rt, and 0 is none.
use Rattle.std.specs.Prelude.{ℕ, ◌+◌, Bool, false, cond, List, eqb, leb, ltb, get_or, set}
use Rattle.tables.specs.Tables.{Leaves, among, pushed, entry_in, put_on_line}
use Rattle.tables.specs.Steps.{room, ready_rule}
use Rattle.replay.specs.Watched.{Held, held}

-- Doc 9705 2.3.5.5.2.3 and 2.3.5.5.2.4: how a centre answers a forward of this version
abbrev pub result_of : ℕ → ℕ → ℕ → ℕ
result_of answers own version = cond (eqb answers 0) 1 (cond (eqb own version) 0 2)

-- the record is in FORWARD (5), with this number
abbrev pub is_awaited : List ℕ → ℕ → Bool
is_awaited p number = cond (eqb (get_or p 0 0) 5) (eqb (get_or p 2 0) number) false

-- the first on the other's line has left, is of these kinds, and has this number
abbrev pub first_rule : List ℕ → List ℕ → ℕ → ℕ → ℕ → ℕ
first_rule p q lowest highest number =
    cond (eqb (ready_rule p) 0)
    (cond (leb (get_or q 7 0) (get_or q 6 0)) 7
    (cond (ltb (entry_in q 0 0) lowest) 7
    (cond (ltb highest (entry_in q 0 0)) 7 (cond (eqb (entry_in q 0 1) number) 0 12)))) (ready_rule p)

abbrev pub put_held : Leaves → Held
put_held x = held (room x.answer) x.page

-- the start goes on the line, and the record waits for its answer
abbrev pub started : List ℕ → ℕ → ℕ → Held
started p job number = put_held (put_on_line (set (set p 2 number) 0 5) 0 number job)

abbrev pub opened : Leaves → ℕ → ℕ → Held
opened x job number = cond x.answer (started x.page job number) (held 23 x.page)

abbrev pub decided : Leaves → ℕ → ℕ → Held
decided x job number = cond x.answer (opened (pushed x.page 9 19472 1024 job) job number) (held 23 x.page)

-- a job's forward is taken. may: this centre forwards
unfoldable pub forward_held : List ℕ → Bool → ℕ → ℕ → Held
forward_held p may job number =
    cond (eqb (ready_rule p) 0)
    (cond may
    (cond (among p 3088 (get_or p 8 0) job) (held 13 p)
    (cond (leb number (get_or p 2 0)) (held 12 p)
    (cond (eqb (get_or p 0 0) 0) (decided (pushed p 8 3088 16384 job) job number) (held 20 p)))) (held 12 p)) (held (ready_rule p) p)
