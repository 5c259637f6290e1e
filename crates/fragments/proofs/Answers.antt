-- An answer is small: a number of 64 bits holds its parts. And it takes a byte of the fragment at least, and not more than there are.
-- Assumes nothing.
use mathlib.Core.Path.{◌≡◌, refl, ap}
use mathlib.Core.Bool.{Bool, true, false, cond}
use mathlib.Core.List.{List, [], ◌++◌}
use Prim.Native.Nat.{ℕ, ◌+◌, ◌-◌, ◌≤◌, ◌<◌}
use native.Mathlib.Omega.{arith}
use lib.Dec.{eqb}
use lib.ListN.{length, length-append}
use Rattle.envelope.specs.Envelopes.{envelope_at, largest}
use Rattle.envelope.specs.declared.EnvelopeRefusal.TheVariants.{Cut, Groups, Kind, Size}
use Rattle.envelope.specs.declared.Envelope.{Envelope}
use Rattle.envelope.proofs.Numbers.{AllBytes}
use Rattle.envelope.proofs.Sizes.{kind_small, bits_small}
use Rattle.envelope.proofs.RoundTrip.{read_written}
use Rattle.fragments.specs.declared.Taken.TheVariants as taken
use Rattle.fragments.specs.declared.Untaken.TheVariants as untaken
use Rattle.fragments.specs.declared.stored.Loaded.TheVariants as loaded
use Rattle.fragments.specs.Mail.{Taking, unfinished, head, in_record, onward, joined, later}
use Rattle.fragments.specs.Record.{Loading, record_bytes, held_in, load_at, after, keep, kept, resumed, begun, taken_by, take_at}
use Rattle.fragments.proofs.Ranges.{bytes_append, bytes_held}
use Rattle.fragments.proofs.Unfinished.{Sized, next_largest, next_within, body_next, takes_some, cut_of, none_open}
use Rattle.std.specs.Prelude.{Err, Ok, Result}
use Rattle.envelope.specs.declared.EnvelopeRefusal.{EnvelopeRefusal}

-- a finished envelope, and the bytes of the fragment that it took
pub record Small (limit : ℕ) (f : List ℕ) (e : Envelope) (n : ℕ) : Type 0 where
  pub kind : e.kind ≤ 3
  pub bits : e.bits ≤ limit
  pub body : e.body ≤ record_bytes limit
  pub took : n ≤ largest limit
  pub some : 0 < n
  pub within : n ≤ length f

module _ (limit : ℕ) (z : Sized limit) (e : Envelope) (n : ℕ) where
  in-record-small : (h f : List ℕ) → AllBytes (h ++ f) → envelope_at limit h 0 ≡ Err Cut → (c : Envelope)
      → envelope_at limit (h ++ f) 0 ≡ Ok c → ◌≡◌ {A = Taking} (Ok (taken.Whole (in_record c) (c.next - length h))) (Ok (taken.Whole e n))
      → Small limit f e n
  in-record-small h f b g c p q =
      let r = read_written limit (h ++ f) 0 b c p in
      let o : in_record c ≡ e = cc in
      let m : c.next - length h ≡ n = cc in
      let x : c.kind ≡ e.kind = ap (λ (y : Envelope). y.kind) o in
      let y : c.bits ≡ e.bits = ap (λ (y : Envelope). y.bits) o in
      let v : head + c.body ≡ e.body = ap (λ (y : Envelope). y.body) o in
      let s = kind_small c.kind r.fit.kind in
      let t = bits_small limit c.kind c.bits r.fit.size in
      let l = next_largest limit z (h ++ f) b c p in
      let u = body_next limit z (h ++ f) b c p in
      let a = takes_some limit z h f b c g p in
      let w = next_within limit z (h ++ f) b c p in
      let d = length-append h f in
      record { kind = omega arith; bits = omega arith; body = omega arith; took = omega arith; some = omega arith; within = omega arith }

  joined_small : (p : ℕ) (h f : List ℕ) → AllBytes (h ++ f) → envelope_at limit h 0 ≡ Err Cut
      → (joined limit p h f).answer ≡ Ok (taken.Whole e n) → Small limit f e n
  unfolding joined
  joined_small p h f b g q = by (envelope_at limit (h ++ f) 0) refl q
    where
      by : (x : Result Envelope EnvelopeRefusal) → envelope_at limit (h ++ f) 0 ≡ x → (onward p h f x).answer ≡ Ok (taken.Whole e n) → Small limit f e n
      by (Ok c) o q = in-record-small h f b g c o q
      by (Err Cut) o q = let y : ◌≡◌ {A = ℕ} 0 1 = cc in absurd (omega arith)
      by (Err Groups) o q = let y : ◌≡◌ {A = ℕ} 0 1 = cc in absurd (omega arith)
      by (Err Kind) o q = let y : ◌≡◌ {A = ℕ} 0 1 = cc in absurd (omega arith)
      by (Err Size) o q = let y : ◌≡◌ {A = ℕ} 0 1 = cc in absurd (omega arith)

  resumed_small : (b f : List ℕ) (k p : ℕ) → AllBytes b → AllBytes f → (resumed limit b k p f).answer ≡ Ok (taken.Whole e n) → Small limit f e n
  unfolding resumed kept
  resumed_small b f k p x y q = by (unfinished limit (held_in k b)) refl q
    where
      by : (t : Bool) → unfinished limit (held_in k b) ≡ t
          → (cond t (after (joined limit p (held_in k b) f).answer (keep limit k b (joined limit p (held_in k b) f).mail)) (after (Err untaken.Shape) b)).answer ≡ Ok (taken.Whole e n)
          → Small limit f e n
      by true o q = joined_small p (held_in k b) f (bytes_append (held_in k b) f (bytes_held k b x) y) (cut_of limit (held_in k b) o) q
      by false w q = let o : ◌≡◌ {A = ℕ} 0 1 = cc in absurd (omega arith)

  begun_small : (b f : List ℕ) (k p : ℕ) → AllBytes f → (begun limit b k p f).answer ≡ Ok (taken.Whole e n) → Small limit f e n
  unfolding begun kept
  begun_small b f k p y q = by (eqb (length f) 0) q
    where
      by : (t : Bool)
          → (cond t (after (Ok (taken.Part 0)) b) (after (joined limit (later p k) [] f).answer (keep limit k b (joined limit (later p k) [] f).mail))).answer ≡ Ok (taken.Whole e n)
          → Small limit f e n
      by true q = let o : ◌≡◌ {A = ℕ} 0 1 = cc in absurd (omega arith)
      by false q = joined_small (later p k) [] f y (none_open limit) q

  pub answer_small : (b f : List ℕ) → AllBytes b → AllBytes f → (take_at limit b f).answer ≡ Ok (taken.Whole e n) → Small limit f e n
  unfolding take_at
  answer_small b f x y q = by (load_at limit b) q
    where
      by : (l : Loading) → (taken_by limit b f l).answer ≡ Ok (taken.Whole e n) → Small limit f e n
      by (Ok (loaded.Part k p)) q = resumed_small b f k p x y q
      by (Ok (loaded.Whole k p)) q = begun_small b f k p y q
      by (Err (untaken.Refused r)) q = let o : ◌≡◌ {A = ℕ} 0 1 = cc in absurd (omega arith)
      by (Err untaken.Shape) q = let o : ◌≡◌ {A = ℕ} 0 1 = cc in absurd (omega arith)
