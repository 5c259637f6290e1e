-- Hosts with one bad habit: on each run a claim is false with the habit, and none is without it. The numbers are those of the promise (specs/Promise). (The modules are
-- checked in the order of their names: a changed rule is refused here, by the claims, before it is refused at the proofs.)
-- Assumes nothing.
use mathlib.Core.Path.{◌≡◌, refl}
use mathlib.Core.Bool.{Bool, true, false, not, cond, ◌&&◌, ◌||◌}
use mathlib.Core.List.{List, [], ◌∷◌, ◌++◌}
use Prim.Native.Nat.{ℕ, suc, ◌+◌}
use lib.Dec.{eqb, ltb, leb}
use Rattle.pair.specs.Names.{Side, Forward, closed, entered}
use Rattle.pair.specs.Carrier.{Sent, nothing, puts, Outcome, refused, acts, Sort, begins, breaks, plain, hand_over, timer_expires_of}
use Rattle.pair.specs.Numbered.{NMachine}
use Rattle.duties.specs.Memory.{told_ended, told_broken, told_refused, Notice, note, is_decided, one, count, fates, says_ended, says_refused, jobs_of}
use Rattle.duties.specs.Host.{Habits, right}
use Rattle.forward_duties.specs.Desks.{Result, none, success, another, Words, Desks, deliver, lay_aside, acknowledge, Event, happens, shows, release, power_fails, cut_off, carrier_fails, Move, job, answered, at, f_run, f_fresh}
use Rattle.forward_duties.specs.Promise.{often}

-- ---- centres without bytes: a record has its number, and whether its forward is under way; ok: it supports forwarding

pub record Desk : Type 0 where
  pub no : ℕ
  pub away : Bool
  pub ok : Bool

pub data Entry : Type 0 where
  a_start a_success another_answer an_abort : ℕ → Entry

abbrev desk : ℕ → Bool → Bool → Desk
desk n a o = record { no = n; away = a; ok = o }

abbrev no_of : Entry → ℕ
no_of (a_start n) = n
no_of (a_success n) = n
no_of (another_answer n) = n
no_of (an_abort n) = n

abbrev sort_of : Entry → Sort
sort_of (a_start n) = begins
sort_of (a_success n) = plain
sort_of (another_answer n) = plain
sort_of (an_abort n) = breaks

-- a forward with the number n
abbrev calls : Desk → ℕ → Outcome Desk Entry
calls d n = cond (not d.away && ltb d.no n) (acts (desk n true d.ok) [] (puts (a_start n))) refused

-- the forward is over
abbrev ends : Desk → Sent Entry → Outcome Desk Entry
ends d s = cond d.away (acts (desk d.no false d.ok) [] s) refused

abbrev takes : Desk → Entry → Outcome Desk Entry
takes d (a_start n) = cond (not d.away && ltb d.no n)
    (acts (desk n false d.ok) [] (puts (cond d.ok (a_success n) (another_answer n)))) refused
takes d (a_success n) = cond (eqb n d.no) (ends d nothing) refused
takes d (another_answer n) = cond (eqb n d.no) (ends d nothing) refused
takes d (an_abort n) = cond (eqb n d.no) (ends d nothing) refused

abbrev toy : NMachine
toy = record {
  at = record {
    R = Desk;
    E = Entry;
    A = ℕ;
    ctl = λ (d : Desk). cond d.away (entered Forward false) closed;
    sort = sort_of;
    call = λ (sd : Side) (d : Desk) (n : ℕ). calls d n;
    receive = λ (sd : Side) (d : Desk) (e : Entry). takes d e;
    expiry = λ (sd : Side) (d : Desk). ends d (puts (an_abort d.no));
    error = λ (sd : Side) (d : Desk). ends d (puts (an_abort d.no));
    away = λ (sd : Side) (d : Desk). ends d nothing;
    p_abort = λ (sd : Side) (d : Desk). ends d nothing;
  };
  holds = λ (d : Desk). d.no;
  carries = no_of;
}

abbrev result_in : Entry → Result
result_in (a_start n) = none
result_in (a_success n) = success
result_in (another_answer n) = another
result_in (an_abort n) = none

abbrev has_start : Entry → Bool
has_start (a_start n) = true
has_start (a_success n) = false
has_start (another_answer n) = false
has_start (an_abort n) = false

abbrev words : Words toy
words = record { indicates = λ (d : Desk) (e : Entry). has_start e && d.ok; confirms = λ (d : Desk) (e : Entry). result_in e }

-- a right host takes the number above the record's
abbrev after : Bool → Habits → List (Move ℕ) → Desks toy
after ok h vs = f_run toy words h (λ (d : Desk) (j : ℕ). suc d.no) (λ (sd : Side). desk 0 false ok) (f_fresh toy
    words h (λ (d : Desk) (j : ℕ). suc d.no) (λ (sd : Side). desk 0 false ok) (desk 0 false true)
    (desk 0 false ok)) vs

-- ---- the test: the numbers of the claims that are false of jobs 1 and 2

abbrev unless : Bool → ℕ → List ℕ → List ℕ
unless true n l = l
unless false n l = n ∷ l

abbrev false_of : Desks toy → ℕ → List ℕ
false_of d j =
    let x = d.both.here in
    let n = often d.both.there.seen j x.log in
    unless (leb n 1) 1
    (unless (eqb (says_refused j x.notes.notices) 0 || eqb (count j (jobs_of x.log)) 0) 2
    (unless ((eqb (says_ended j x.notes.notices) 0 || (not (eqb (count j d.declined) 0) || eqb n 1)) && (eqb (count j d.declined) 0 || eqb n 0)) 3
    (unless ((not (x.done j) || is_decided (x.kept.decision j)) && eqb
    (fates j x.kept.notices + count j x.kept.opened) (one (is_decided (x.kept.decision j)))) 4 [])
    ))

abbrev false_in : Habits → List (Move ℕ) → List ℕ
false_in h vs = let d = after true h vs in false_of d 1 ++ false_of d 2

-- ---- the runs

abbrev here : Event ℕ → Move ℕ
here a = at true a

abbrev there : Event ℕ → Move ℕ
there a = at false a

-- a forward is sent; it arrives; it is shown and its answer leaves; the answer arrives
abbrev sends : ℕ → List (Move ℕ)
sends j = job (deliver j) ∷ here release ∷ []

abbrev arrives : List (Move ℕ)
arrives = there (happens (hand_over 0)) ∷ []

abbrev answers : List (Move ℕ)
answers = there shows ∷ there release ∷ answered ∷ here release ∷ []

abbrev restart : List (Move ℕ)
restart = here power_fails ∷ here carrier_fails ∷ []

-- job 1 is forwarded and answered, and comes again
abbrev again : List (Move ℕ)
again = sends 1 ++ (arrives ++ (answers ++ (sends 1 ++ (arrives ++ answers))))

-- job 1 arrives, the power fails, and it comes again
abbrev again_late : List (Move ℕ)
again_late = sends 1 ++ (arrives ++ (there shows ∷ restart ++ (sends 1 ++ (arrives ++ answers))))

-- the answer leaves before the user is shown the forward, and the power fails there
abbrev unheard : List (Move ℕ)
unheard = sends 1 ++ (arrives ++ (there release ∷ answered ∷ there power_fails ∷ there carrier_fails ∷ []))

-- job 1 comes while another forward is under way, and is refused; it comes again
abbrev refused_first : List (Move ℕ)
refused_first = sends 2 ++ (job (lay_aside 1) ∷ arrives ++ (answers ++ (sends 1 ++ (arrives ++ answers))))

-- job 1 is acknowledged while it is in hand, the power fails, and it does not come again
abbrev acknowledged_first : List (Move ℕ)
acknowledged_first = job (acknowledge 1) ∷ restart

-- t-start expires and job 2 is forwarded and answered: job 1 is told with it, where it was not told as broken
abbrev expires : List (Move ℕ)
expires = sends 1 ++ (here (happens (timer_expires_of 0)) ∷ here release ∷ arrives ++ (there release ∷ sends 2 ++ (arrives ++ answers)))

-- the answer of an old forward comes late
abbrev late : List (Move ℕ)
late = sends 1 ++ (arrives ++ (there shows ∷ there release ∷ here (happens (timer_expires_of 0)) ∷ here release ∷ sends 2
    ++
    (answered ∷ here (happens (hand_over 0)) ∷ here release ∷ arrives ++ (there release ∷ arrives ++ answers))))

-- it comes up before the other centre has heard, and refuses job 2; what had left arrives; then both have heard
abbrev apart_for : List (Move ℕ)
apart_for = sends 1 ++ (here power_fails ∷ here cut_off ∷ job (deliver 1) ∷ job (deliver 2) ∷ arrives ++
    (there shows ∷ there release ∷ answered ∷ there carrier_fails ∷ sends 1 ++ (sends 2 ++ (arrives ++ answers))))

-- the power fails before the user is shown the forward; the host comes up, and the answer that had not left does not leave
abbrev unleft : List (Move ℕ)
unleft = sends 1 ++ (arrives ++ (there power_fails ∷ there cut_off ∷ answered ∷ there carrier_fails ∷ []))

abbrev keeps_late : Habits
keeps_late = record { keeps_first = false; acknowledges_last = true; keeps_record = true; keeps_notes = true; looks_up = true; tells_broken = true; awaits_end = true; shows_first = true }

abbrev acknowledges_early : Habits
acknowledges_early = record { keeps_first = true; acknowledges_last = false; keeps_record = true; keeps_notes = true; looks_up = true; tells_broken = true; awaits_end = true; shows_first = true }

abbrev fresh_journal : Habits
fresh_journal = record { keeps_first = true; acknowledges_last = true; keeps_record = true; keeps_notes = false; looks_up = true; tells_broken = true; awaits_end = true; shows_first = true }

-- duty 13: forwards-again
abbrev forwards_again : Habits
forwards_again = record { keeps_first = true; acknowledges_last = true; keeps_record = true; keeps_notes = true; looks_up = false; tells_broken = true; awaits_end = true; shows_first = true }

abbrev silent : Habits
silent = record { keeps_first = true; acknowledges_last = true; keeps_record = true; keeps_notes = true; looks_up = true; tells_broken = false; awaits_end = true; shows_first = true }

-- duty 14: answers-before-showing
abbrev answers_first : Habits
answers_first = record { keeps_first = true; acknowledges_last = true; keeps_record = true; keeps_notes = true; looks_up = true; tells_broken = true; awaits_end = true; shows_first = false }

-- shown twice, three times over; sent and told as refused; lost in silence; told as answered and never shown, twice
pub each_is_needed : false_in forwards_again again ∷ false_in fresh_journal again_late ∷ false_in keeps_late again_late ∷
    false_in forwards_again refused_first ∷ false_in acknowledges_early acknowledged_first ∷ false_in silent expires ∷ false_in
    answers_first unheard ∷ [] ≡ (1 ∷ 3 ∷ 4 ∷ []) ∷ (1 ∷ 3 ∷ []) ∷ (1 ∷ []) ∷ (2 ∷ 4 ∷ []) ∷ (4 ∷ []) ∷ (3 ∷ []) ∷
    (3 ∷ []) ∷ []
unfolding f_run
each_is_needed = refl

pub none_false : false_in right again ∷ false_in right again_late ∷ false_in right refused_first ∷ false_in right
    acknowledged_first ∷ false_in right expires ∷ false_in right unheard ∷ false_in right late ∷ false_in right apart_for ∷
    false_in right unleft ∷ [] ≡ [] ∷ [] ∷ [] ∷ [] ∷ [] ∷ [] ∷ [] ∷ [] ∷ [] ∷ []
unfolding f_run
none_false = refl

-- ---- what the right host tells on them, and how often jobs 1 and 2 were shown: the promise is not about hosts that do nothing

pub record Seen : Type 0 where
  pub told : List Notice
  pub declined : List ℕ
  pub still : List ℕ
  pub first : ℕ
  pub second : ℕ

abbrev seen : List Notice → List ℕ → List ℕ → ℕ → ℕ → Seen
seen n x o a b = record { told = n; declined = x; still = o; first = a; second = b }

abbrev told_on : Bool → List (Move ℕ) → Seen
told_on ok vs =
    let d = after ok right vs in
    let x = d.both.here in
    seen x.kept.notices d.declined x.kept.opened (often d.both.there.seen 1 x.log)
    (often d.both.there.seen 2 x.log)

pub again_told : told_on true again ≡ seen (note 1 told_ended ∷ []) [] [] 1 0
unfolding f_run
again_told = refl

-- the other centre does not support it
pub declined_told : told_on false again ≡ seen (note 1 told_ended ∷ []) (1 ∷ []) [] 0 0
unfolding f_run
declined_told = refl

pub again_late_told : told_on true again_late ≡ seen (note 1 told_broken ∷ []) [] [] 1 0
unfolding f_run
again_late_told = refl

-- the answer does not leave before the user has the message
pub unheard_told : told_on true unheard ≡ seen (note 1 told_broken ∷ []) [] [] 0 0
unfolding f_run
unheard_told = refl

pub unleft_told : told_on true unleft ≡ seen (note 1 told_broken ∷ []) [] [] 0 0
unfolding f_run
unleft_told = refl

pub refused_told : told_on true refused_first ≡ seen (note 1 told_refused ∷ note 2 told_ended ∷ []) [] [] 0 1
unfolding f_run
refused_told = refl

pub expires_told : told_on true expires ≡ seen (note 1 told_broken ∷ note 2 told_ended ∷ []) [] [] 0 1
unfolding f_run
expires_told = refl

-- the old answer tells nothing of job 2
pub late_told : told_on true late ≡ seen (note 1 told_broken ∷ note 2 told_ended ∷ []) [] [] 1 1
unfolding f_run
late_told = refl

pub apart_told : told_on true apart_for ≡ seen (note 1 told_broken ∷ note 2 told_refused ∷ []) [] [] 1 0
unfolding f_run
apart_told = refl
