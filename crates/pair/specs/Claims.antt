-- What the claims of demand 3 speak of: matching pairs, the beginning of a list, numbers that rise.
use Rattle.std.specs.Prelude.{ℕ, ◌≡◌, Bool, true, ◌&&◌, ◌||◌, List, [], ◌∷◌, ◌++◌, ltb}
use Rattle.pair.specs.Names.{StartReq, StartInd, Dialogue, End, Control, same, is, is_idle}
use Rattle.pair.specs.Carrier.{Body}

-- IDLE with IDLE, START-REQ with START-IND, DIALOGUE with DIALOGUE, END with END, the last two with equal DSC
abbrev pub matching : Control → Control → Bool
matching a g =
    (is_idle a && is_idle g)
    || ((is a.state StartReq && is g.state StartInd)
    || ((is a.state StartInd && is g.state StartReq)
    || ((is a.state Dialogue && (is g.state Dialogue && same a.dsc g.dsc))
    || (is a.state End && (is g.state End && same a.dsc g.dsc)))))

-- xs is the beginning of ys
pub record Prefix (xs ys : List Body) : Type 0 where
  pub rest : List Body
  pub joined : xs ++ rest ≡ ys

-- each number is above the one before it, the first above n
abbrev pub rising : ℕ → List ℕ → Bool
rising n [] = true
rising n (j ∷ js) = ltb n j && rising j js
