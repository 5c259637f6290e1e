-- What a call answers, and what its record then holds.
-- Assumes nothing.
use mathlib.Core.Path.{◌≡◌, refl, ap, sym, ◌∙◌}
use mathlib.Core.Bool.{Bool, true, false, cond, ◌&&◌}
use mathlib.Core.List.{List, [], ◌∷◌, ◌++◌}
use Prim.Native.Nat.{ℕ, zero, suc, ◌-◌, ◌≤◌, ◌<◌}
use native.Mathlib.Omega.{arith}
use lib.Dec.{leb, eqb}
use lib.ListN.{length, take, drop, get_or, length-append, length-drop}
use lib.Seq.{length-take-le}
use borrow.Author.Tests.{eqb-true}
use Rattle.envelope.specs.Envelopes.{envelope_at, refusal_number, largest, most_bits}
use Rattle.envelope.specs.Strings.{Ending, ended, stopped, walk}
use Rattle.envelope.specs.declared.EnvelopeRefusal.{EnvelopeRefusal}
use Rattle.envelope.specs.declared.EnvelopeRefusal.TheVariants.{Cut, Groups, Kind, Size}
use Rattle.envelope.proofs.Numbers.{AllBytes}
use Rattle.fragments.specs.declared.Taken.{Taken}
use Rattle.fragments.specs.declared.Taken.TheVariants.{Part}
use Rattle.fragments.specs.declared.Untaken.TheVariants.{Refused, Shape}
use Rattle.fragments.specs.declared.stored.Loaded.TheVariants as loaded
use Rattle.fragments.specs.Mail.{Taking, Mail, part, whole, refused, fresh, is_cut, unfinished, onward, joined, top, later}
use Rattle.fragments.specs.Record.{Loading, after, head_at, record_of, state_of, held_in, count_in, place_in, loaded_by, load_at, kept, resumed, begun, taken_by, take_at, cut_short, ended_by, end_at, record_bytes}
use Rattle.fragments.specs.Cuts.{Fed, go_on, hand_over, hand_all, joined_up, leaves, whole_mail, stopped_at}
use Rattle.fragments.proofs.Ranges.{bytes_append, bytes_front, bytes_back, bytes_drop}
use Rattle.fragments.proofs.Unfinished.{Sized, next_within, next_largest, takes_some, none_open}
use Rattle.fragments.proofs.Calls.{sized}
use Rattle.fragments.proofs.Whole.{Good, follow, good_follow}
use Rattle.fragments.proofs.EveryCut.{stepped, take_held, take_behind, take_nothing, take_refused, hand_one, every_cut, good_fresh, Quiet, none, done, leaves_quiet, leaves_stopped, whole_mail_is}
use Rattle.fragments_laws.specs.Claims.{Said, goes_on, refuses, no_record, said_by, said_of, said_last, whole_says_of, by_calls, by_whole}
use Rattle.std.specs.Prelude.{Err, Ok, Result}
use Rattle.envelope.specs.declared.Envelope.{Envelope}

-- ---- one call, on any range and any fragment

part_one : (n m : ℕ) → ◌≡◌ {A = Taking} (Ok (Part n)) (Ok (Part m)) → n ≡ m
part_one n m e = cc

refused_one : (r q : EnvelopeRefusal) → ◌≡◌ {A = Taking} (Err (Refused r)) (Err (Refused q)) → r ≡ q
refused_one r q e = cc

clash : {A : Type 0} → ◌≡◌ {A = ℕ} 0 1 → A
clash e = absurd (omega arith)

-- "n bytes taken" of an envelope that is not finished: all bytes of the fragment
pub all_taken : (limit : ℕ) (b f : List ℕ) (n : ℕ) → (take_at limit b f).answer ≡ Ok (Part n) → n ≡ length f
unfolding take_at resumed begun kept joined
all_taken limit b f n = by (load_at limit b)
  where
    stop : (p : ℕ) (h : List ℕ) (r : EnvelopeRefusal) → (onward p h f (Err r)).answer ≡ Ok (Part n) → n ≡ length f
    stop p h Cut e = sym (part_one (length f) n e)
    stop p h Groups e = clash (cc)
    stop p h Kind e = clash (cc)
    stop p h Size e = clash (cc)

    on : (p : ℕ) (h : List ℕ) (x : Result Envelope EnvelopeRefusal) → (onward p h f x).answer ≡ Ok (Part n) → n ≡ length f
    on p h (Ok c) e = clash (cc)
    on p h (Err r) e = stop p h r e

    resume : (m p : ℕ) (t : Bool) → (cond t (kept limit m b (joined limit p (held_in m b) f)) (after (Err Shape) b)).answer ≡ Ok (Part n) → n ≡ length f
    resume m p true e = on p (held_in m b) (envelope_at limit (held_in m b ++ f) 0) e
    resume m p false e = clash (cc)

    next : (m p : ℕ) (t : Bool) → eqb (length f) 0 ≡ t
        → (cond t (after (Ok (Part 0)) b) (kept limit m b (joined limit (later p m) [] f))).answer ≡ Ok (Part n) → n ≡ length f
    next m p true q e = sym (part_one 0 n e) ∙ sym (eqb-true (length f) 0 q)
    next m p false q e = on (later p m) [] (envelope_at limit f 0) e

    by : (x : Loading) → (taken_by limit b f x).answer ≡ Ok (Part n) → n ≡ length f
    by (Ok (loaded.Part m p)) e = resume m p (unfinished limit (held_in m b)) e
    by (Ok (loaded.Whole m p)) e = next m p (eqb (length f) 0) refl e
    by (Err (Refused r)) e = clash (cc)
    by (Err Shape) e = clash (cc)

-- the first byte of a record that holds a refusal is its number
head_state : (limit : ℕ) (m : Mail) → get_or (record_of limit m) 0 0 ≡ state_of m
unfolding record_of head_at
head_state limit m = refl

loaded_state : (limit : ℕ) (b : List ℕ) (r : EnvelopeRefusal) → load_at limit b ≡ Err (Refused r) → get_or b 0 0 ≡ refusal_number r
unfolding load_at loaded_by
loaded_state limit b r e = size (eqb (length b) (record_bytes limit) && leb (count_in b) (largest limit)) e
  where
    s : ℕ
    s = get_or b 0 0

    one : (q : EnvelopeRefusal) → ◌≡◌ {A = Loading} (Err (Refused q)) (Err (Refused r)) → q ≡ r
    one q u = cc

    is : (q : EnvelopeRefusal) → eqb (get_or b 0 0) (refusal_number q) ≡ true → ◌≡◌ {A = Loading} (Err (Refused q)) (Err (Refused r))
        → get_or b 0 0 ≡ refusal_number r
    is q t u = eqb-true (get_or b 0 0) (refusal_number q) t ∙ ap refusal_number (one q u)

    d : (t : Bool) → eqb (get_or b 0 0) 23 ≡ t → cond {A = Loading} t (Err (Refused Size)) (Err Shape) ≡ Err (Refused r)
        → get_or b 0 0 ≡ refusal_number r
    d true q u = is Size q u
    d false q u = clash (cc)

    c : (t : Bool) → eqb (get_or b 0 0) 22 ≡ t
        → cond {A = Loading} t (Err (Refused Kind)) (cond (eqb (get_or b 0 0) 23) (Err (Refused Size)) (Err Shape)) ≡ Err (Refused r)
        → get_or b 0 0 ≡ refusal_number r
    c true q u = is Kind q u
    c false q u = d (eqb (get_or b 0 0) 23) refl u

    g : (t : Bool) → eqb (get_or b 0 0) 21 ≡ t
        → cond {A = Loading} t (Err (Refused Groups)) (cond (eqb (get_or b 0 0) 22) (Err (Refused Kind)) (cond (eqb (get_or b 0 0) 23) (Err (Refused Size)) (Err Shape))) ≡ Err (Refused r)
        → get_or b 0 0 ≡ refusal_number r
    g true q u = is Groups q u
    g false q u = c (eqb (get_or b 0 0) 22) refl u

    k : (t : Bool) → eqb (get_or b 0 0) 20 ≡ t
        → cond {A = Loading} t (Err (Refused Cut)) (cond (eqb (get_or b 0 0) 21) (Err (Refused Groups)) (cond (eqb (get_or b 0 0) 22) (Err (Refused Kind)) (cond (eqb (get_or b 0 0) 23) (Err (Refused Size)) (Err Shape)))) ≡ Err (Refused r)
        → get_or b 0 0 ≡ refusal_number r
    k true q u = is Cut q u
    k false q u = g (eqb (get_or b 0 0) 21) refl u

    w : (t : Bool)
        → cond {A = Loading} t (Ok (loaded.Whole (count_in b) (place_in b))) (cond (eqb (get_or b 0 0) 20) (Err (Refused Cut)) (cond (eqb (get_or b 0 0) 21) (Err (Refused Groups)) (cond (eqb (get_or b 0 0) 22) (Err (Refused Kind)) (cond (eqb (get_or b 0 0) 23) (Err (Refused Size)) (Err Shape))))) ≡ Err (Refused r)
        → get_or b 0 0 ≡ refusal_number r
    w true u = clash (cc)
    w false u = k (eqb (get_or b 0 0) 20) refl u

    p : (t : Bool)
        → cond {A = Loading} t (Ok (loaded.Part (count_in b) (place_in b))) (cond (eqb (get_or b 0 0) 1) (Ok (loaded.Whole (count_in b) (place_in b))) (cond (eqb (get_or b 0 0) 20) (Err (Refused Cut)) (cond (eqb (get_or b 0 0) 21) (Err (Refused Groups)) (cond (eqb (get_or b 0 0) 22) (Err (Refused Kind)) (cond (eqb (get_or b 0 0) 23) (Err (Refused Size)) (Err Shape)))))) ≡ Err (Refused r)
        → get_or b 0 0 ≡ refusal_number r
    p true u = clash (cc)
    p false u = w (eqb (get_or b 0 0) 1) u

    size : (t : Bool) → cond {A = Loading} t (loaded_by (get_or b 0 0) (count_in b) (place_in b)) (Err Shape) ≡ Err (Refused r)
        → get_or b 0 0 ≡ refusal_number r
    size true u = p (eqb (get_or b 0 0) 0) u
    size false u = clash (cc)

-- the refusal that a fragment is answered with is the one that the record then holds
pub refusal_held : (limit : ℕ) (b f : List ℕ) (r : EnvelopeRefusal) → (take_at limit b f).answer ≡ Err (Refused r)
    → get_or (take_at limit b f).bytes 0 0 ≡ refusal_number r
unfolding take_at resumed begun kept joined
refusal_held limit b f r = by (load_at limit b) refl
  where
    met : (q : EnvelopeRefusal) (p : ℕ) → ◌≡◌ {A = Taking} (Err (Refused q)) (Err (Refused r)) → get_or (record_of limit (refused q p)) 0 0 ≡ refusal_number r
    met q p e = head_state limit (refused q p) ∙ ap refusal_number (refused_one q r e)

    on : (m p : ℕ) (h : List ℕ) (x : Result Envelope EnvelopeRefusal) → (kept limit m b (onward p h f x)).answer ≡ Err (Refused r)
        → get_or (kept limit m b (onward p h f x)).bytes 0 0 ≡ refusal_number r
    on m p h (Ok c) e = clash (cc)
    on m p h (Err Cut) e = clash (cc)
    on m p h (Err Groups) e = met Groups p e
    on m p h (Err Kind) e = met Kind p e
    on m p h (Err Size) e = met Size p e

    resume : (m p : ℕ) (t : Bool)
        → (cond t (kept limit m b (joined limit p (held_in m b) f)) (after (Err Shape) b)).answer ≡ Err (Refused r)
        → get_or (cond t (kept limit m b (joined limit p (held_in m b) f)) (after (Err Shape) b)).bytes 0 0 ≡ refusal_number r
    resume m p true e = on m p (held_in m b) (envelope_at limit (held_in m b ++ f) 0) e
    resume m p false e = clash (cc)

    next : (m p : ℕ) (t : Bool)
        → (cond t (after (Ok (Part 0)) b) (kept limit m b (joined limit (later p m) [] f))).answer ≡ Err (Refused r)
        → get_or (cond t (after (Ok (Part 0)) b) (kept limit m b (joined limit (later p m) [] f))).bytes 0 0 ≡ refusal_number r
    next m p true e = clash (cc)
    next m p false e = on m (later p m) [] (envelope_at limit f 0) e

    by : (x : Loading) → load_at limit b ≡ x → (taken_by limit b f x).answer ≡ Err (Refused r)
        → get_or (taken_by limit b f x).bytes 0 0 ≡ refusal_number r
    by (Ok (loaded.Part m p)) q e = resume m p (unfinished limit (held_in m b)) e
    by (Ok (loaded.Whole m p)) q e = next m p (eqb (length f) 0) e
    by (Err (Refused x)) q e = loaded_state limit b x q ∙ ap refusal_number (refused_one x r e)
    by (Err Shape) q e = clash (cc)

-- the same of the end of the input
pub end_held : (limit : ℕ) (b : List ℕ) (r : EnvelopeRefusal) → (end_at limit b).answer ≡ Err (Refused r)
    → get_or (end_at limit b).bytes 0 0 ≡ refusal_number r
unfolding end_at cut_short
end_held limit b r = by (load_at limit b) refl
  where
    met : (p : ℕ) (t : Bool)
        → (cond t (after (Err (Refused Cut)) (record_of limit (refused Cut p))) (after (Err Shape) b)).answer ≡ Err (Refused r)
        → get_or (cond t (after (Err (Refused Cut)) (record_of limit (refused Cut p))) (after (Err Shape) b)).bytes 0 0 ≡ refusal_number r
    met p true e = head_state limit (refused Cut p) ∙ ap refusal_number (refused_one Cut r e)
    met p false e = clash (cc)

    cut : (n p : ℕ) (t : Bool)
        → (cond t (after (Ok (Part 0)) b) (cond (unfinished limit (held_in n b)) (after (Err (Refused Cut)) (record_of limit (refused Cut p))) (after (Err Shape) b))).answer ≡ Err (Refused r)
        → get_or (cond t (after (Ok (Part 0)) b) (cond (unfinished limit (held_in n b))
        (after (Err (Refused Cut)) (record_of limit (refused Cut p))) (after (Err Shape) b))).bytes 0 0 ≡ refusal_number
        r
    cut n p true e = clash (cc)
    cut n p false e = met p (unfinished limit (held_in n b)) e

    by : (x : Loading) → load_at limit b ≡ x → (ended_by limit b x).answer ≡ Err (Refused r) → get_or (ended_by limit b x).bytes 0 0 ≡ refusal_number r
    by (Ok (loaded.Part m p)) q e = cut m p (eqb m 0) e
    by (Ok (loaded.Whole m p)) q e = clash (cc)
    by (Err (Refused x)) q e = loaded_state limit b x q ∙ ap refusal_number (refused_one x r e)
    by (Err Shape) q e = clash (cc)

-- ---- every way of cutting

-- what is held says the refusal
abbrev mail_says : Mail → Said
mail_says (part p h) = goes_on
mail_says (whole p h) = goes_on
mail_says (refused r p) = refuses r

abbrev state_says : ℕ → Said
state_says n = cond (eqb n 0) goes_on (cond (eqb n 1) goes_on (cond (eqb n 20) (refuses Cut) (cond (eqb n 21)
    (refuses Groups) (cond (eqb n 22) (refuses Kind) (cond (eqb n 23) (refuses Size) no_record)))))

state_says_is : (m : Mail) → state_says (state_of m) ≡ mail_says m
state_says_is (part p h) = refl
state_says_is (whole p h) = refl
state_says_is (refused Cut p) = refl
state_says_is (refused Groups p) = refl
state_says_is (refused Kind p) = refl
state_says_is (refused Size p) = refl

abbrev record_says : List ℕ → Said
record_says b = state_says (get_or b 0 0)

record_says_is : (limit : ℕ) (m : Mail) → record_says (record_of limit m) ≡ mail_says m
record_says_is limit m = ap state_says (head_state limit m) ∙ state_says_is m

module _ (limit : ℕ) (z : Sized limit) where
  said_on : (k : ℕ) (b f : List ℕ)
      → said_of limit (suc k) b f ≡ said_by (take_at limit b f).answer (λ (n : ℕ). said_of limit k (take_at limit b f).bytes (drop n f))
  unfolding said_of
  said_on k b f = refl

  hand_on : (k : ℕ) (b f : List ℕ)
      → hand_over limit (suc k) b f ≡ go_on (take_at limit b f).answer (take_at limit b f).bytes (λ (n : ℕ). hand_over limit k (take_at limit b f).bytes (drop n f))
  unfolding hand_over
  hand_on k b f = refl

  -- a fragment behind what is unfinished, if the rest of it goes on as it should
  module _ (k p : ℕ) (b h f : List ℕ) (c : envelope_at limit h 0 ≡ Err Cut) (bytes : AllBytes (h ++ f)) (size : length f ≤ k) (e : take_at limit b f ≡ stepped limit z (joined limit p h f))
      (ih : (m : Mail) (v : List ℕ) → Good limit m → AllBytes v → length v < k → said_of limit k (record_of limit m) v ≡
      record_says (hand_over limit k (record_of limit m) v).bytes)
      (good : p ≤ top) where
    joined_by : (x : Result Envelope EnvelopeRefusal) → envelope_at limit (h ++ f) 0 ≡ x
        → said_by (onward p h f x).answer (λ (n : ℕ). said_of limit k (record_of limit (onward p h f x).mail) (drop n f))
        ≡ record_says (go_on (onward p h f x).answer (record_of limit (onward p h f x).mail)
        (λ (n : ℕ). hand_over limit k (record_of limit (onward p h f x).mail) (drop n f))).bytes
    joined_by (Err Cut) q = sym (record_says_is limit (part p (h ++ f)))
    joined_by (Err Groups) q = sym (record_says_is limit (refused Groups p))
    joined_by (Err Kind) q = sym (record_says_is limit (refused Kind p))
    joined_by (Err Size) q = sym (record_says_is limit (refused Size p))
    joined_by (Ok d) q =
        let n = next_within limit z (h ++ f) bytes d q in
        let o = takes_some limit z h f bytes d c q in
        let a = length-append h f in
        let l : length (drop (d.next - length h) f) ≡ length f - (d.next - length h) = length-drop (d.next - length h) f in
        let v : AllBytes (drop (d.next - length h) f) = bytes_drop (d.next - length h) f (bytes_back h f bytes) in
        let s = length-take-le d.next (h ++ f) n in
        let g : Good limit (whole p (take d.next (h ++ f))) = (omega (arith, next_largest limit z (h ++ f) bytes d q), good) in
        ih (whole p (take d.next (h ++ f))) (drop (d.next - length h) f) g v (omega arith)

    joined_step : said_of limit (suc k) b f ≡ record_says (hand_over limit (suc k) b f).bytes
    unfolding joined
    joined_step = rw (said_on k b f, hand_on k b f, e) (joined_by (envelope_at limit (h ++ f) 0) refl)

  -- what the last call for a fragment says is what the record then holds
  pub said_held : (k : ℕ) (m : Mail) (f : List ℕ) → Good limit m → AllBytes f → length f < k
      → said_of limit k (record_of limit m) f ≡ record_says (hand_over limit k (record_of limit m) f).bytes
  said_held zero m f g b l = absurd (omega arith)
  said_held (suc k) (part p h) f g b l =
      joined_step k p (record_of limit (part p h)) h f g.0 (bytes_append h f g.1 b) (omega arith)
      (take_held limit z p h f g b)
      (λ (m : Mail) (v : List ℕ) (q : Good limit m) (a : AllBytes v) (s : length v < k). said_held k m v q a s)
      g.2
  said_held (suc k) (whole p h) [] g b l = rw
      (said_on k (record_of limit (whole p h)) [], hand_on k (record_of limit (whole p h)) [], take_nothing limit z p h g)
      (sym (record_says_is limit (whole p h)))
  said_held (suc k) (whole p h) (x ∷ xs) g b l =
      joined_step k (later p (length h)) (record_of limit (whole p h)) [] (x ∷ xs) (none_open limit) b (omega arith)
      (take_behind limit z p h (x ∷ xs) g b (λ (q : length (x ∷ xs) ≡ 0). omega arith))
      (λ (m : Mail) (v : List ℕ) (q : Good limit m) (a : AllBytes v) (s : length v < k). said_held k m v q a s)
      (omega arith)
  said_held (suc k) (refused r p) f g b l = rw (
    said_on k (record_of limit (refused r p)) f,
    hand_on k
        (record_of limit (refused r p)) f,
    take_refused limit z r p f g,
  ) (sym (record_says_is limit (refused r p)))

  all_said : (m : Mail) (fs : List (List ℕ)) → Good limit m → AllBytes (joined_up fs)
      → said_last limit (mail_says m) (record_of limit m) fs ≡ record_says (hand_all limit (record_of limit m) fs).bytes
  unfolding said_last hand_all joined_up
  all_said m [] g b = sym (record_says_is limit m)
  all_said m (f ∷ fs) g b =
      let c = bytes_front f (joined_up fs) b in
      let x = (follow limit m f).mail in
      let h : (hand_over limit (suc (length f)) (record_of limit m) f).bytes ≡ record_of limit (follow limit m f).mail = ap
      (λ (w : Fed). w.bytes) (hand_one limit z (suc (length f)) m f g c (omega arith)) in
      let s : said_of limit (suc (length f)) (record_of limit m) f ≡ mail_says (follow limit m f).mail = said_held
      (suc (length f)) m f g c (omega arith) ∙ (ap record_says h ∙ record_says_is limit (follow limit m f).mail) in
      rw (s, h) (all_said (follow limit m f).mail fs (good_follow limit z m f g c) (bytes_back f (joined_up fs) b))

  whole_says : (s : List ℕ) → mail_says (whole_mail limit s) ≡ whole_says_of (walk limit s).ending
  whole_says s = by (walk limit s).ending refl
    where
      mail_is : (x : Ending) → (walk limit s).ending ≡ x → whole_mail limit s ≡ leaves s fresh 0 (walk limit s).envelopes x
      mail_is x e = whole_mail_is limit z s ∙ rw e

      still : (m : Mail) → Quiet limit z m → mail_says m ≡ goes_on
      still (part p h) none = refl
      still (whole p h) done = refl
      still (refused r p) q = elim q [ ]

      stop : (r : EnvelopeRefusal) (n : ℕ) → mail_says (stopped_at s r n) ≡ cond (is_cut r) goes_on (refuses r)
      stop Cut n = refl
      stop Groups n = refl
      stop Kind n = refl
      stop Size n = refl

      by : (x : Ending) → (walk limit s).ending ≡ x → mail_says (whole_mail limit s) ≡ whole_says_of x
      by (ended n) e = rw (mail_is (ended n) e) (still (leaves s fresh 0 (walk limit s).envelopes (ended n))
          (leaves_quiet limit z s (walk limit s).envelopes fresh 0 n none))
      by (stopped r n) e = rw (mail_is (stopped r n) e, leaves_stopped limit z s (walk limit s).envelopes fresh 0 r n) (stop r n)

  -- the theorem: the envelopes, the refusal and the record
  pub cut_as_whole : (fs : List (List ℕ)) → AllBytes (joined_up fs) → by_calls limit fs ≡ by_whole limit (joined_up fs)
  cut_as_whole fs b =
      let c = every_cut limit z fs b in
      let s : said_last limit goes_on (record_of limit fresh) fs ≡ whole_says_of (walk limit (joined_up fs)).ending = all_said
      fresh fs (good_fresh limit z) b ∙ (ap (λ (w : Fed). record_says w.bytes) c ∙
      (record_says_is limit (whole_mail limit (joined_up fs)) ∙ whole_says (joined_up fs))) in
      rw (c, s)

pub cut_as_whole_today : (fs : List (List ℕ)) → AllBytes (joined_up fs) → by_calls most_bits fs ≡ by_whole most_bits (joined_up fs)
cut_as_whole_today fs b = cut_as_whole most_bits sized fs b
