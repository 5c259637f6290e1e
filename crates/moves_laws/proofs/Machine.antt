-- What the functions of crate moves do to what a record holds is what the machine of the theorem does: the finite control with numbers (crate pair).
-- Assumes nothing.
use mathlib.Core.Path.{◌≡◌, refl}
use mathlib.Core.Bool.{Bool, true, false, cond, ◌&&◌}
use mathlib.Core.List.{[], ◌∷◌}
use Prim.Native.Nat.{ℕ}
use lib.Dec.{eqb, ltb}
use Rattle.pair.specs.Names.{Side, Call, StartRequest, StartResponse, MessageRequest, EndRequest, EndResponse, UserAbort, TimerExpiry, SystemError, Primitive, DStart, DStartCnf, DTurnedAway, DData, DEnd, DEndCnf, DAbort, DPAbort, is_idle, closed, takes, sends, expects, after, quiet, aborts}
use Rattle.pair.specs.Carrier.{Body, nothing, puts, message, Outcome, refused, acts}
use Rattle.pair.specs.Numbered.{Numbered, mark}
use Rattle.pair.proofs.ControlMachine.{Held, held, Ent, ent, ask, moved, sent_by, met, handed, receives, control}
use Rattle.pair.proofs.NumberedMachine.{leaves, numbers, numbered}
use Rattle.moves.specs.declared.Held.{Held as Holds}
use Rattle.moves.specs.declared.Done.{Done}
use Rattle.moves.specs.declared.Done.TheVariants.{Quiet, Shows, Sends, Aborts}
use Rattle.moves.specs.Machine.{is_message, holding, moved_by, called_of, met_by, received_of}
use Rattle.std.specs.Prelude.{None, Option, Some}

-- a record of the machine that holds this
abbrev pub rec_of : Holds → Numbered Held
rec_of r = mark r.number (held r.control r.highest)

-- ---- calls

-- what a call u with the message b and the job j does, in the machine's words
abbrev pub call_done : Call → Body → ℕ → Option Done → Outcome (Numbered Held) (Numbered Ent)
call_done u b j None = refused
call_done u b j (Some (Quiet r)) = acts (rec_of r) [] nothing
call_done u b j (Some (Shows r)) = acts (rec_of r) (b ∷ []) nothing
call_done u b j (Some (Sends r)) = acts (rec_of r) []
    (cond (is_message u) (message (mark r.number (ent (sends u) b)) b j) (puts (mark r.number (ent (sends u) b))))
call_done u b j (Some (Aborts r)) = acts (rec_of r) [] (puts (mark r.number (ent (sends u) b)))

pub call_is : (sd : Side) (r : Holds) (u : Call) (v : ℕ) (b : Body) (j : ℕ)
    → (numbered control).at.call sd (rec_of r) (mark v (ask u b j)) ≡ call_done u b j (called_of sd r u v j)
call_is sd r (StartRequest m) v b j = go (takes sd r.control (StartRequest m))
  where
    up : (l : Bool)
        → cond l (leaves v (acts (moved (held r.control r.highest) (ask (StartRequest m) b j)) [] (sent_by (ask (StartRequest m) b j)))) refused ≡ call_done (StartRequest m) b j (cond l (Some (Sends (moved_by r (StartRequest m) v j))) None)
    up true = refl
    up false = refl

    go : (t : Bool)
        → numbers control r.number v (cond (t && true) (acts (moved (held r.control r.highest) (ask (StartRequest m) b j)) [] (sent_by (ask (StartRequest m) b j))) refused) ≡ call_done (StartRequest m) b j (cond (t && ltb r.number v) (Some (Sends (moved_by r (StartRequest m) v j))) None)
    go true = up (ltb r.number v)
    go false = refl
call_is sd r (StartResponse m a) v b j = go (takes sd r.control (StartResponse m a))
  where
    go : (t : Bool)
        → numbers control r.number v (cond (t && true) (acts (moved (held r.control r.highest) (ask (StartResponse m a) b j)) [] (sent_by (ask (StartResponse m a) b j))) refused) ≡ call_done (StartResponse m a) b j (cond t (Some (Sends (moved_by r (StartResponse m a) v j))) None)
    go true = refl
    go false = refl
call_is sd r MessageRequest v b j = go (takes sd r.control MessageRequest && ltb r.highest j)
  where
    go : (t : Bool)
        → numbers control r.number v (cond t (acts (moved (held r.control r.highest) (ask MessageRequest b j)) [] (sent_by (ask MessageRequest b j))) refused) ≡ call_done MessageRequest b j (cond t (Some (Sends (moved_by r MessageRequest v j))) None)
    go true = refl
    go false = refl
call_is sd r (EndRequest m) v b j = go (takes sd r.control (EndRequest m))
  where
    go : (t : Bool)
        → numbers control r.number v (cond (t && true) (acts (moved (held r.control r.highest) (ask (EndRequest m) b j)) [] (sent_by (ask (EndRequest m) b j))) refused) ≡ call_done (EndRequest m) b j (cond t (Some (Sends (moved_by r (EndRequest m) v j))) None)
    go true = refl
    go false = refl
call_is sd r (EndResponse m a) v b j = go (takes sd r.control (EndResponse m a))
  where
    go : (t : Bool)
        → numbers control r.number v (cond (t && true) (acts (moved (held r.control r.highest) (ask (EndResponse m a) b j)) [] (sent_by (ask (EndResponse m a) b j))) refused) ≡ call_done (EndResponse m a) b j (cond t (Some (Sends (moved_by r (EndResponse m a) v j))) None)
    go true = refl
    go false = refl
call_is sd r UserAbort v b j = go (takes sd r.control UserAbort)
  where
    go : (t : Bool)
        → numbers control r.number v (cond (t && true) (acts (moved (held r.control r.highest) (ask UserAbort b j)) [] (sent_by (ask UserAbort b j))) refused) ≡ call_done UserAbort b j (cond t (Some (Aborts (moved_by r UserAbort v j))) None)
    go true = refl
    go false = refl
call_is sd r TimerExpiry v b j = go (takes sd r.control TimerExpiry)
  where
    go : (t : Bool)
        → numbers control r.number v (cond (t && true) (acts (moved (held r.control r.highest) (ask TimerExpiry b j)) [] (sent_by (ask TimerExpiry b j))) refused) ≡ call_done TimerExpiry b j (cond t (Some (Aborts (moved_by r TimerExpiry v j))) None)
    go true = refl
    go false = refl
call_is sd r SystemError v b j = go (takes sd r.control SystemError)
  where
    go : (t : Bool)
        → numbers control r.number v (cond (t && true) (acts (moved (held r.control r.highest) (ask SystemError b j)) [] (sent_by (ask SystemError b j))) refused) ≡ call_done SystemError b j (cond t (Some (Aborts (moved_by r SystemError v j))) None)
    go true = refl
    go false = refl

-- t-start expires, and a system error
pub expiry_is : (sd : Side) (r : Holds)
    → (numbered control).at.expiry sd (rec_of r) ≡ call_done TimerExpiry [] 0 (called_of sd r TimerExpiry 0 0)
expiry_is sd r = go (takes sd r.control TimerExpiry)
  where
    go : (t : Bool)
        → leaves r.number (cond (t && true) (acts (moved (held r.control r.highest) (ask TimerExpiry [] 0)) [] (sent_by (ask TimerExpiry [] 0))) refused) ≡ call_done TimerExpiry [] 0 (cond t (Some (Aborts (moved_by r TimerExpiry 0 0))) None)
    go true = refl
    go false = refl

pub error_is : (sd : Side) (r : Holds)
    → (numbered control).at.error sd (rec_of r) ≡ call_done SystemError [] 0 (called_of sd r SystemError 0 0)
error_is sd r = go (takes sd r.control SystemError)
  where
    go : (t : Bool)
        → leaves r.number (cond (t && true) (acts (moved (held r.control r.highest) (ask SystemError [] 0)) [] (sent_by (ask SystemError [] 0))) refused) ≡ call_done SystemError [] 0 (cond t (Some (Aborts (moved_by r SystemError 0 0))) None)
    go true = refl
    go false = refl

-- ---- primitives

-- what the arrival of a primitive with the message b does
abbrev pub arrival_done : Body → Option Done → Outcome (Numbered Held) (Numbered Ent)
arrival_done b None = refused
arrival_done b (Some (Quiet r)) = acts (rec_of r) [] nothing
arrival_done b (Some (Shows r)) = acts (rec_of r) (b ∷ []) nothing
arrival_done b (Some (Sends r)) = refused
arrival_done b (Some (Aborts r)) = acts (rec_of r) [] (puts (mark r.number (ent DAbort [])))

-- x: it is expected; d: it is a message; i: nobody listens
meeting : (r : Holds) (p : Primitive) (b : Body) (x d i : Bool)
    → leaves r.number (met (held r.control r.highest) (cond x (quiet (after r.control p)) (cond i (quiet closed) (aborts closed))) (handed (d && x) b)) ≡ arrival_done b (Some (cond x (cond d (Shows (holding (after r.control p) r.number r.highest)) (Quiet (holding (after r.control p) r.number r.highest))) (cond i (Quiet (holding closed r.number r.highest)) (Aborts (holding closed r.number r.highest)))))
meeting r p b true true i = refl
meeting r p b true false i = refl
meeting r p b false true true = refl
meeting r p b false true false = refl
meeting r p b false false true = refl
meeting r p b false false false = refl

-- the carrier's own D-P-ABORT and the start that it turns away are such arrivals too
pub met_is : (sd : Side) (r : Holds) (p : Primitive) (b : Body)
    → leaves r.number (receives sd (held r.control r.highest) (ent p b)) ≡ arrival_done b (Some (met_by sd r p))
unfolding met_by
met_is sd r (DStart m) b = meeting r (DStart m) b (expects sd r.control (DStart m)) false (is_idle r.control && false)
met_is sd r (DStartCnf a) b = meeting r (DStartCnf a) b (expects sd r.control (DStartCnf a)) false (is_idle r.control && true)
met_is sd r DTurnedAway b = meeting r DTurnedAway b (expects sd r.control DTurnedAway) false (is_idle r.control && true)
met_is sd r DData b = meeting r DData b (expects sd r.control DData) true (is_idle r.control && true)
met_is sd r DEnd b = meeting r DEnd b (expects sd r.control DEnd) false (is_idle r.control && true)
met_is sd r (DEndCnf a) b = meeting r (DEndCnf a) b (expects sd r.control (DEndCnf a)) false (is_idle r.control && true)
met_is sd r DAbort b = meeting r DAbort b (expects sd r.control DAbort) false (is_idle r.control && true)
met_is sd r DPAbort b = meeting r DPAbort b (expects sd r.control DPAbort) false (is_idle r.control && true)

-- no start: it has the record's number, or is refused
same_number : (sd : Side) (r : Holds) (p : Primitive) (b : Body) (t : Bool)
    → cond t (leaves r.number (receives sd (held r.control r.highest) (ent p b))) refused ≡ arrival_done b (cond t (Some (met_by sd r p)) None)
same_number sd r p b true = met_is sd r p b
same_number sd r p b false = refl

pub receive_is : (sd : Side) (r : Holds) (p : Primitive) (v : ℕ) (b : Body)
    → (numbered control).at.receive sd (rec_of r) (mark v (ent p b)) ≡ arrival_done b (received_of sd r p v)
receive_is sd r (DStart m) v b = go (ltb r.number v)
  where
    go : (t : Bool)
        → cond t (leaves v (receives sd (held r.control r.highest) (ent (DStart m) b))) refused ≡ arrival_done b (cond t (Some (met_by sd (holding r.control v r.highest) (DStart m))) None)
    go true = met_is sd (holding r.control v r.highest) (DStart m) b
    go false = refl
receive_is sd r (DStartCnf a) v b = same_number sd r (DStartCnf a) b (eqb v r.number)
receive_is sd r DTurnedAway v b = same_number sd r DTurnedAway b (eqb v r.number)
receive_is sd r DData v b = same_number sd r DData b (eqb v r.number)
receive_is sd r DEnd v b = same_number sd r DEnd b (eqb v r.number)
receive_is sd r (DEndCnf a) v b = same_number sd r (DEndCnf a) b (eqb v r.number)
receive_is sd r DAbort v b = same_number sd r DAbort b (eqb v r.number)
receive_is sd r DPAbort v b = same_number sd r DPAbort b (eqb v r.number)
