-- Rows whose columns are alike do the same, and what columns do that lead to a control.
-- Assumes nothing.
use mathlib.Core.Path.{◌≡◌, refl, ap, sym, subst, ◌∙◌}
use mathlib.Core.Bool.{Bool, true, false, not, cond, ◌&&◌, ◌||◌}
use mathlib.Core.List.{List, [], ◌∷◌}
use Prim.Native.Nat.{ℕ}
use lib.Dec.{T, eqb}
use borrow.Author.Tests.{eqb-true}
use Rattle.words.proofs.Laws.{both_left, both_right}
use Rattle.control.specs.Control.{number, is_idle, entered, same, closed}
use Rattle.control.specs.declared.State.{State}
use Rattle.control.specs.declared.State.TheVariants as st
use Rattle.control.specs.declared.Control.{Control}
use Rattle.machine.specs.Record.{enter}
use Rattle.machine.specs.Outcome.{outcome}
use Rattle.machine.specs.declared.record.Record.{Record}
use Rattle.machine.specs.declared.outcome.Outcome.{Outcome}
use Rattle.rows.specs.Names as n
use Rattle.rows.specs.declared.Parameters.{Parameters}
use Rattle.rows.specs.declared.Out.{Out}
use Rattle.rows.specs.Engine.{flag, state_of, state_after, flag_after, refusal_is, invokes, apdu_of, indication_of, hands, outcome_of}
use Rattle.rows.proofs.Wanted.{out, alike, until}

-- what is done, of the control, the two flags and the codes
abbrev built : Record → Parameters → Control → Bool → Bool → ℕ → ℕ → ℕ → ℕ → ℕ → ℕ → Outcome
built r g c t u k z s x y w =
    record {
      refusal = refusal_is z;
      next =
          record {
            control = c;
            timer = t;
            active = u;
            highest = cond (eqb k n.job) g.job r.highest;
            request = cond (eqb k n.security) g.security r.request;
            policy = r.policy;
            forwards = r.forwards;
            version = r.version;
            edition = r.edition;
          };
      invoked = invokes r g s;
      told = indication_of r g y w;
      apdu = apdu_of g s x;
      delivers = hands y;
    }

state_back : (s : State) → state_of (number s) ≡ s
state_back st.Idle = refl
state_back st.StartReq = refl
state_back st.StartInd = refl
state_back st.Dialogue = refl
state_back st.End = refl
state_back st.Forward = refl

number_is : (s t : State) → eqb (number s) (number t) ≡ true → s ≡ t
number_is s t e = sym (state_back s) ∙ ap state_of (eqb-true (number s) (number t) e) ∙ state_back t

same_is : (a b : Bool) → same a b ≡ true → a ≡ b
same_is true b e = sym e
same_is false true e = absurd (subst T (sym e) tt)
same_is false false e = refl

pub alike_does : (r : Record) (g : Parameters) (o w : Out) → alike r.control o w ≡ true → outcome_of r g o ≡ outcome_of r g w
unfolding outcome_of
alike_does r g o w e =
    let s = r.control.state in
    let d = r.control.dsc in
    let one = both_left (eqb (number (state_after o.next s)) (number (state_after w.next s)) && same
    (flag_after o.dsc d) (flag_after w.dsc d)) ((eqb o.timer w.timer && eqb o.user w.user) && (
    (eqb o.keeps w.keeps && eqb o.refusal w.refusal) && (
    (eqb o.sends w.sends && eqb o.reason w.reason) &&
    (eqb o.tells w.tells && eqb o.why w.why)))) e in
    let two = both_right (eqb (number (state_after o.next s)) (number (state_after w.next s)) && same
    (flag_after o.dsc d) (flag_after w.dsc d)) ((eqb o.timer w.timer && eqb o.user w.user) && (
    (eqb o.keeps w.keeps && eqb o.refusal w.refusal) && (
    (eqb o.sends w.sends && eqb o.reason w.reason) &&
    (eqb o.tells w.tells && eqb o.why w.why)))) e in
    let three = both_right (eqb o.timer w.timer && eqb o.user w.user) (
    (eqb o.keeps w.keeps && eqb o.refusal w.refusal) && (
    (eqb o.sends w.sends && eqb o.reason w.reason) &&
    (eqb o.tells w.tells && eqb o.why w.why))) two in
    let four = both_right (eqb o.keeps w.keeps && eqb o.refusal w.refusal) (
    (eqb o.sends w.sends && eqb o.reason w.reason) &&
    (eqb o.tells w.tells && eqb o.why w.why)) three in
    let a = number_is _ _ (both_left (eqb (number (state_after o.next s)) (number (state_after w.next s)))
    (same (flag_after o.dsc d) (flag_after w.dsc d)) one) in
    let b = same_is _ _ (both_right (eqb (number (state_after o.next s)) (number (state_after w.next s)))
    (same (flag_after o.dsc d) (flag_after w.dsc d)) one) in
    let tu = both_left (eqb o.timer w.timer && eqb o.user w.user) (
    (eqb o.keeps w.keeps && eqb o.refusal w.refusal) && (
    (eqb o.sends w.sends && eqb o.reason w.reason) &&
    (eqb o.tells w.tells && eqb o.why w.why))) two in
    let kz = both_left (eqb o.keeps w.keeps && eqb o.refusal w.refusal) (
    (eqb o.sends w.sends && eqb o.reason w.reason) &&
    (eqb o.tells w.tells && eqb o.why w.why)) three in
    let sx = both_left (eqb o.sends w.sends && eqb o.reason w.reason)
    (eqb o.tells w.tells && eqb o.why w.why) four in
    let yw = both_right (eqb o.sends w.sends && eqb o.reason w.reason)
    (eqb o.tells w.tells && eqb o.why w.why) four in
    go (state_after o.next s) (state_after w.next s) (flag_after o.dsc d) (flag_after w.dsc d) o.timer
    w.timer o.user w.user o.keeps w.keeps o.refusal w.refusal o.sends w.sends o.reason
    w.reason o.tells w.tells o.why w.why
    a b (l o.timer w.timer (eqb o.user w.user) tu) (m (eqb o.timer w.timer) o.user w.user tu)
    (l o.keeps w.keeps (eqb o.refusal w.refusal) kz)
    (m (eqb o.keeps w.keeps) o.refusal w.refusal kz)
    (l o.sends w.sends (eqb o.reason w.reason) sx)
    (m (eqb o.sends w.sends) o.reason w.reason sx) (l o.tells w.tells (eqb o.why w.why) yw)
    (m (eqb o.tells w.tells) o.why w.why yw)
  where
    go : (s s' : State) (d d' : Bool) (t t' u u' k k' z z' p p' x x' y y' v v' : ℕ) → s ≡ s' → d ≡ d' → t ≡ t' → u ≡ u'
        → k ≡ k' → z ≡ z' → p ≡ p' → x ≡ x' → y ≡ y' → v ≡ v'
        → built r g (entered s d) (flag_after t r.timer) (flag_after u r.active) k z p x y v ≡ built r g
        (entered s' d') (flag_after t' r.timer) (flag_after u' r.active) k' z' p' x' y' v'
    go s s' d d' t t' u u' k k' z z' p p' x x' y y' v v' a b c e f h i j q w = rw (a, b, c, e, f, h, i, j, q, w)

    l : (a b : ℕ) (c : Bool) → (eqb a b && c) ≡ true → a ≡ b
    l a b c e = eqb-true a b (both_left (eqb a b) c e)

    m : (c : Bool) (a b : ℕ) → (c && eqb a b) ≡ true → a ≡ b
    m c a b e = eqb-true a b (both_right c (eqb a b) e)

-- ---- columns that lead to a control

state_there : (s t : State) → state_after (number s) t ≡ s
state_there st.Idle t = refl
state_there st.StartReq t = refl
state_there st.StartInd t = refl
state_there st.Dialogue t = refl
state_there st.End t = refl
state_there st.Forward t = refl

flag_there : (a b : Bool) → flag_after (flag a) b ≡ a
flag_there true b = refl
flag_there false b = refl

flag_until : (i b : Bool) → flag_after (cond i n.no n.as_is) b ≡ (not i && b)
flag_until true b = refl
flag_until false b = refl

pub there : (r : Record) (g : Parameters) (c : Control) (t u k z s x y w : ℕ)
    → outcome_of r g (out c t u k z s x y w) ≡ built r g c (flag_after t r.timer) (flag_after u r.active) k z s x y w
unfolding outcome_of
there r g c t u k z s x y w =
    ap (λ (q : Control). built r g q (flag_after t r.timer) (flag_after u r.active) k z s x y w) (both
    (state_after (number c.state) r.control.state) (flag_after (flag c.dsc) r.control.dsc)
    (state_there c.state r.control.state) (flag_there c.dsc r.control.dsc))
  where
    both : (a : State) (b : Bool) → a ≡ c.state → b ≡ c.dsc → entered a b ≡ c
    both a b e f = ap (λ (v : State). entered v b) e ∙ ap (entered c.state) f

-- the timer and the user stay until IDLE
abbrev pub keeping : Record → Parameters → ℕ → Record
keeping r g k =
    record {
      control = r.control;
      timer = r.timer;
      active = r.active;
      highest = cond (eqb k n.job) g.job r.highest;
      request = cond (eqb k n.security) g.security r.request;
      policy = r.policy;
      forwards = r.forwards;
      version = r.version;
      edition = r.edition;
    }

pub moved : (r : Record) (g : Parameters) (c : Control) (k s x y w : ℕ)
    → outcome_of r g (out c (until c n.as_is) (until c n.as_is) k n.taken s x y w) ≡ outcome (enter (keeping r g k) c) (invokes r g s) (indication_of r g y w) (apdu_of g s x) (hands y)
unfolding enter
moved r g c k s x y w =
    there r g c (until c n.as_is) (until c n.as_is) k n.taken s x y w
    ∙ ap (λ (t : Bool). built r g c t (flag_after (until c n.as_is) r.active) k n.taken s x y w) (flag_until (is_idle c) r.timer)
    ∙ ap (λ (u : Bool). built r g c (not (is_idle c) && r.timer) u k n.taken s x y w) (flag_until (is_idle c) r.active)
