-- Histories of one end, what is counted in them, and what is claimed of them (document 02, E12).
use Rattle.std.specs.Prelude.{ℕ, ◌+◌, ◌≡◌, Bool, true, false, cond, ◌&&◌, ◌||◌, List, [], ◌∷◌, ◌++◌}
use Rattle.control.specs.declared.Side.{Side}
use Rattle.machine.specs.Outcome.{is_none}
use Rattle.machine.specs.Record.{fresh_record}
use Rattle.machine.specs.declared.record.Configuration.{Configuration}
use Rattle.machine.specs.declared.record.Record.{Record}
use Rattle.machine.specs.declared.event.Event.{Event}
use Rattle.machine.specs.declared.outcome.Outcome.{Outcome}
use Rattle.numbered.specs.Numbers.{held_after, numbered_step}
use Rattle.told.specs.Lists.{Item, is_item, user_abort_indication, provider_abort_indication, periods, begins, ends, invocation_of, receipt_of}

-- ---- an entry of a history, and what is counted

-- what a history says of an event: whether it was taken, what the user invoked by it and what the user received. Nothing of the record
pub record Entry : Type 0 where
  pub taken : Bool
  pub invocation : Item
  pub receipt : Item

-- "Refused events count as nothing"
abbrev pub activation : Side → Entry → Bool
activation sd x = x.taken && (begins (periods sd) x.invocation || begins (periods sd) x.receipt)

abbrev pub closing : Side → Entry → Bool
closing sd x = x.taken && (ends (periods sd) x.invocation || ends (periods sd) x.receipt)

-- a closing by a call of the user
abbrev pub closing_call : Side → Entry → Bool
closing_call sd x = x.taken && ends (periods sd) x.invocation

abbrev pub abort_indication : Entry → Bool
abort_indication x = x.taken && (is_item x.receipt user_abort_indication || is_item x.receipt provider_abort_indication)

abbrev pub one : Bool → ℕ
one b = cond b 1 0

unfoldable pub activations : Side → List Entry → ℕ
activations sd [] = 0
activations sd (x ∷ xs) = one (activation sd x) + activations sd xs

unfoldable pub closings : Side → List Entry → ℕ
closings sd [] = 0
closings sd (x ∷ xs) = one (closing sd x) + closings sd xs

-- ---- what is claimed of a history after which the user is active, or not

pub record ToldOnce (sd : Side) (active : Bool) (l : List Entry) : Type 0 where
  -- "the number of times its user became active equals the number of closings plus one if active now"
  pub counted : activations sd l ≡ closings sd l + one active
  -- "Between two activations there is one closing": x and y are two, one after the other, and zs is what lies between them
  pub between : (xs zs ys : List Entry) (x y : Entry) → l ≡ xs ++ (x ∷ (zs ++ (y ∷ ys))) → activation sd x ≡ true → activation sd y ≡ true → activations sd zs ≡ 0 → closings sd zs ≡ 1
  -- and no event is both
  pub apart : (xs ys : List Entry) (x : Entry) → l ≡ xs ++ (x ∷ ys) → (activation sd x && closing sd x) ≡ false
  -- "a user who closed by a call gets no abort indication before becoming active again": x is the call, y what comes later, and none of zs an
  -- activation
  pub untold : (xs zs ys : List Entry) (x y : Entry) → l ≡ xs ++ (x ∷ (zs ++ (y ∷ ys))) → closing_call sd x ≡ true → activations sd zs ≡ 0 → abort_indication y ≡ false
  -- nor by the call itself
  pub silent : (xs ys : List Entry) (x : Entry) → l ≡ xs ++ (x ∷ ys) → closing_call sd x ≡ true → abort_indication x ≡ false

-- ---- the history of a sequence of events

-- an event with the dialogue number that it brings
pub record NumberedEvent : Type 0 where
  pub event : Event
  pub number : ℕ

-- an end: its record, and the dialogue number that it holds
pub record End : Type 0 where
  pub dialogue : Record
  pub number : ℕ

abbrev pub end : Record → ℕ → End
end r n = record { dialogue = r; number = n }

-- "from a fresh record", whatever it is made with; its number is "0 at first" (document 02, E9)
abbrev pub fresh : Configuration → End
fresh g = end (fresh_record g) 0

abbrev pub outcome_of : Side → End → NumberedEvent → Outcome
outcome_of sd h b = numbered_step sd h.dialogue h.number b.event b.number

-- a refused event leaves the number
abbrev pub next : Side → End → NumberedEvent → End
next sd h b = end (outcome_of sd h b).next (cond (is_none (outcome_of sd h b).refusal) (held_after h.number b.event b.number) h.number)

abbrev pub entry : Event → Outcome → Entry
entry e o = record { taken = is_none o.refusal; invocation = invocation_of e; receipt = receipt_of o.told }

unfoldable pub history : Side → End → List NumberedEvent → List Entry
history sd h [] = []
history sd h (b ∷ bs) = entry b.event (outcome_of sd h b) ∷ history sd (next sd h b) bs

-- where it leads
unfoldable pub reaches : Side → End → List NumberedEvent → End
reaches sd h [] = h
reaches sd h (b ∷ bs) = reaches sd (next sd h b) bs
