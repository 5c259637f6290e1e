-- A string of envelopes reads back as the list that was written, and every byte string is such a list or has its refusal.
-- Assumes nothing.
use mathlib.Core.Path.{◌≡◌, refl, ap, sym, ◌∙◌, subst}
use mathlib.Core.Bool.{Bool, true, false}
use mathlib.Core.List.{List, [], ◌∷◌, ◌++◌, append_assoc}
use Prim.Native.Nat.{ℕ, zero, suc, ◌+◌, ◌-◌, ◌^◌, ◌≤◌, ◌<◌}
use native.Mathlib.Omega.{arith}
use native.Mathlib.Nat.{add-zero}
use lib.Dec.{leb}
use lib.ListN.{length, drop, length-append, length-drop, drop_of_length-le}
use lib.Seq.{drop-drop, drop-append_seam}
use borrow.Author.Tests.{le-leb, lt-leb, leb-true, leb-false}
use Rattle.envelope.specs.Numbers.{number}
use Rattle.envelope.specs.Envelopes.{envelope_at, Content, content_of, bytes_of, placed, Fit}
use Rattle.envelope.specs.Strings.{string_of, all_placed, AllFit, none, more, ended, stopped, Walk, ends, past, on_read, walk_from_of, walk, Told, whole, broken}
use Rattle.envelope.specs.declared.EnvelopeRefusal.{EnvelopeRefusal}
use Rattle.envelope.specs.declared.Envelope.{Envelope}
use Rattle.envelope.proofs.Numbers.{AllBytes}
use Rattle.envelope.proofs.Puts.{groups_pos}
use Rattle.envelope.proofs.Sizes.{length_bytes}
use Rattle.envelope.proofs.RoundTrip.{ReadIs, written_read, read_written}
use Rattle.std.specs.Prelude.{Err, Ok, Result}

-- ---- the clauses of a walk

pub walk_none : (limit : ℕ) (s : List ℕ) (at : ℕ) → walk_from_of limit s zero at ≡ ends (ended at)
unfolding walk_from_of
walk_none limit s at = refl

pub walk_end : (limit : ℕ) (s : List ℕ) (f at : ℕ) → length s ≤ at → walk_from_of limit s f at ≡ ends (ended at)
unfolding walk_from_of
walk_end limit s zero at h = refl
walk_end limit s (suc f) at h = rw (le-leb (length s) at h)

pub walk_on : (limit : ℕ) (s : List ℕ) (f at : ℕ) → at < length s
    → walk_from_of limit s (suc f) at ≡ on_read (envelope_at limit s at) at (λ (e : Envelope). walk_from_of limit s f e.next)
unfolding walk_from_of
walk_on limit s f at h = rw (lt-leb (length s) at h)

-- an envelope takes three bytes at least
pub bytes_three : (c : Content) → 3 ≤ length (bytes_of c)
unfolding number
bytes_three c = omega (arith, length_bytes c, groups_pos 9 c.kind, groups_pos 9 c.job, groups_pos 9 c.bits)

pub placed_next : (at : ℕ) (c : Content) → (placed at c).next ≡ at + length (bytes_of c)
unfolding placed
placed_next at c = refl

-- ---- a list that was written is read back

pub string_read : (limit : ℕ) → limit < 2 ^ 64 → (cs : List Content) → AllFit limit cs → (f : ℕ) (s : List ℕ) (at : ℕ) → length s ≤ at + f → at ≤ length s → drop at s ≡ string_of cs → walk_from_of limit s f at ≡ record { envelopes = all_placed at cs; ending = ended (length s) }
unfolding string_of all_placed
string_read limit w [] none f s at h g e =
    let l : length s - at ≡ 0 = sym (length-drop at s) ∙ ap length e in
    let z : at ≡ length s = omega arith in
    walk_end limit s f at (omega arith) ∙ rw z
string_read limit w (c ∷ cs) (more fit fits) f s at h g e =
    let l : length s - at ≡ length (bytes_of c) + length (string_of cs) = sym (length-drop at s) ∙
    (ap length e ∙ length-append (bytes_of c) (string_of cs)) in
    let b = bytes_three c in
    let k : f ≡ suc (f - 1) = omega arith in
    let r = written_read limit w c fit s at (string_of cs) e in
    let d : drop (at + length (bytes_of c)) s ≡ string_of cs = sym (drop-drop (length (bytes_of c)) at s) ∙ rw
    (e, drop-append_seam (bytes_of c) (string_of cs)) in
    let ih = string_read limit w cs fits (f - 1) s (at + length (bytes_of c)) (omega arith) (omega arith) d in
    rw (k, walk_on limit s (f - 1) at (omega arith), r, placed_next at c, ih)

pub strings_read : (limit : ℕ) → limit < 2 ^ 64 → (cs : List Content) → AllFit limit cs → walk limit (string_of cs) ≡ record { envelopes = all_placed 0 cs; ending = ended (length (string_of cs)) }
unfolding walk
strings_read limit w cs fits = string_read limit w cs fits (length (string_of cs)) (string_of cs) 0 (omega arith) (omega arith) refl

-- ---- every byte string is such a list, or has its refusal and the byte where the refused envelope begins

after : (limit : ℕ) (s : List ℕ) (at : ℕ) (c : Content) (w : Walk) → Fit limit c
    → drop at s ≡ bytes_of c ++ drop (at + length (bytes_of c)) s → Told limit s (at + length (bytes_of c)) w
    → Told limit s at (past (placed at c) w)
unfolding string_of all_placed
after limit s at c w fit e (whole cs fits p) =
    let l : at + length (bytes_of c) + length (string_of cs) ≡ at + length (bytes_of c ++ string_of cs) = rw
    (length-append (bytes_of c) (string_of cs)) (omega arith) in
    rw l (whole (c ∷ cs) (more fit fits) (e ∙ rw p))
after limit s at c w fit e (broken cs t r fits p h q) =
    let l : at + length (bytes_of c) + length (string_of cs) ≡ at + length (bytes_of c ++ string_of cs) = rw
    (length-append (bytes_of c) (string_of cs)) (omega arith) in
    rw l (broken (c ∷ cs) t r (more fit fits) (e ∙ rw (p, append_assoc (bytes_of c) (string_of cs) t)) (rw l at h) (rw l at q))

at_end : (limit : ℕ) (s : List ℕ) (at : ℕ) → length s ≤ at → Told limit s at (ends (ended at))
unfolding string_of all_placed
at_end limit s at h =
    let w : Told limit s at (ends (ended (at + 0))) = whole [] none (drop_of_length-le s h) in
    rw (add-zero at) at w

at_refusal : (limit : ℕ) (s : List ℕ) (at : ℕ) (r : EnvelopeRefusal) → at < length s → envelope_at limit s at ≡ Err r
    → Told limit s at (ends (stopped r at))
unfolding string_of all_placed
at_refusal limit s at r h e =
    let w : Told limit s at (ends (stopped r (at + 0))) = broken [] (drop at s) r none refl (rw (add-zero at) h) (rw (add-zero at) e) in
    rw (add-zero at) at w

-- where the next envelope begins
pub record Onward (s : List ℕ) (at : ℕ) (e : Envelope) : Type 0 where
  pub next : e.next ≡ at + length (bytes_of (content_of s e))
  pub on : at + 3 ≤ e.next
  pub within : e.next ≤ length s

pub goes_on : (limit : ℕ) (s : List ℕ) (at : ℕ) (e : Envelope) → ReadIs limit s at e → Onward s at e
goes_on limit s at e r =
    let n : e.next ≡ at + length (bytes_of (content_of s e)) = ap (λ (x : Envelope). x.next) r.place ∙ placed_next at (content_of s e) in
    record { next = n; on = omega (arith, bytes_three (content_of s e)); within = r.within }

at_envelope : (limit : ℕ) (s : List ℕ) (at : ℕ) (e : Envelope) (w : Walk) → ReadIs limit s at e
    → Told limit s e.next w → Told limit s at (past e w)
at_envelope limit s at e w r t =
    let n = (goes_on limit s at e r).next in
    let d : drop at s ≡ bytes_of (content_of s e) ++ drop (at + length (bytes_of (content_of s e))) s = r.holds ∙ ap
    (λ (k : ℕ). bytes_of (content_of s e) ++ drop k s) n in
    subst (λ (x : Envelope). Told limit s at (past x w)) (sym r.place)
    (after limit s at (content_of s e) w r.fit d (subst (λ (k : ℕ). Told limit s k w) n t))

at_answer : (limit : ℕ) (s : List ℕ) → AllBytes s → (f at : ℕ) (z : Result Envelope EnvelopeRefusal) → envelope_at limit s at ≡ z
    → at < length s → ((e : Envelope) → ReadIs limit s at e → Told limit s e.next (walk_from_of limit s f e.next))
    → Told limit s at (on_read z at (λ (e : Envelope). walk_from_of limit s f e.next))
at_answer limit s b f at (Ok e) p h k = let r = read_written limit s at b e p in at_envelope limit s at e
    (walk_from_of limit s f e.next) r (k e r)
at_answer limit s b f at (Err r) p h k = at_refusal limit s at r h p

either_end : (limit : ℕ) (s : List ℕ) (f at : ℕ) (t : Bool) → leb (length s) at ≡ t
    → (at < length s → Told limit s at (on_read (envelope_at limit s at) at (λ (e : Envelope). walk_from_of limit s f e.next)))
    → Told limit s at (walk_from_of limit s (suc f) at)
either_end limit s f at true e k = let h = leb-true (length s) at e in rw (walk_end limit s (suc f) at h) (at_end limit s at h)
either_end limit s f at false e k = let h = leb-false (length s) at e in rw (walk_on limit s f at h) (k h)

pub string_told : (limit : ℕ) (s : List ℕ) → AllBytes s → (f at : ℕ) → length s ≤ at + f → at ≤ length s
    → Told limit s at (walk_from_of limit s f at)
string_told limit s b zero at h g = rw (walk_none limit s at) (at_end limit s at (omega arith))
string_told limit s b (suc f) at h g =
    either_end limit s f at (leb (length s) at) refl (λ (k : at < length s). at_answer limit s b f at
    (envelope_at limit s at) refl k (λ (e : Envelope) (r : ReadIs limit s at e). let o = goes_on limit s at e r
    in string_told limit s b f e.next (omega arith) (omega arith)))

pub every_string : (limit : ℕ) (s : List ℕ) → AllBytes s → Told limit s 0 (walk limit s)
unfolding walk
every_string limit s b = string_told limit s b (length s) 0 (omega arith) (omega arith)
