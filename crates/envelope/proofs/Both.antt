-- The writer and the reader together: what is written is read back whole, what is read is written as the same bytes,
-- and no two envelopes have the same bytes.
-- Assumes nothing.
use mathlib.Core.Path.{◌≡◌, refl, ap, sym, ◌∙◌}
use mathlib.Core.Bool.{Bool, true, false, cond}
use mathlib.Core.List.{List, [], ◌∷◌, ◌++◌, append_assoc, append-nil}
use Prim.Native.Nat.{ℕ, ◌+◌, ◌-◌, ◌^◌, ◌≤◌, ◌<◌}
use native.Mathlib.Omega.{arith}
use lib.Dec.{ltb}
use lib.ListN.{length, take, drop, length-take}
use lib.Seq.{drop-drop, drop-append_seam, take_at}
use borrow.Author.Tests.{le-ltb, le-leb}
use Rattle.envelope.specs.Envelopes.{bytes_for, envelope_at, Content, content, content_of, bytes_of, header, placed, Fit, fits, Left, left, wrote, write_envelope}
use Rattle.envelope.specs.Strings.{string_of, all_placed, AllFit, none, more, contents_of}
use Rattle.envelope.specs.declared.Envelope.{Envelope}
use Rattle.envelope.proofs.Numbers.{AllBytes}
use Rattle.envelope.proofs.Sizes.{padded_taken, is_fit}
use Rattle.envelope.proofs.RoundTrip.{written_read, read_written}
use Rattle.envelope.proofs.Strings.{placed_next}
use Rattle.std.specs.Prelude.{Err, Ok}
use Rattle.words.specs.declared.Unwritten.TheVariants.{Room}
use Rattle.words.specs.declared.Unwritten.TheVariants.{Shape}

-- ---- what lies where an envelope was placed is what was written

split : (c : Content) (t : List ℕ) → bytes_of c ++ t ≡ header c ++ (c.body ++ t)
unfolding bytes_of header
split c t = simp append_assoc

from_body : (limit : ℕ) (c : Content) → Fit limit c → (s : List ℕ) (p : ℕ) (t : List ℕ) → drop p s ≡ c.body ++ t
    → content c.kind c.job c.bits (drop p s) ≡ c
from_body limit c f s p t e = rw (e, take_at c.body t (bytes_for c.bits) f.body)

pub content_back : (limit : ℕ) (c : Content) → Fit limit c → (s : List ℕ) (at : ℕ) (t : List ℕ)
    → drop at s ≡ bytes_of c ++ t → content_of s (placed at c) ≡ c
unfolding placed
content_back limit c f s at t e =
    let d : drop (at + length (header c)) s ≡ c.body ++ t = sym (drop-drop (length (header c)) at s) ∙ rw
    (e, split c t, drop-append_seam (header c) (c.body ++ t)) in
    from_body limit c f s (at + length (header c)) t d

pub contents_back : (limit : ℕ) (cs : List Content) → AllFit limit cs → (s : List ℕ) (at : ℕ) → drop at s ≡ string_of cs
    → contents_of s (all_placed at cs) ≡ cs
unfolding string_of all_placed
contents_back limit [] none s at e = refl
contents_back limit (c ∷ cs) (more f fs) s at e =
    let d : drop (at + length (bytes_of c)) s ≡ string_of cs = sym (drop-drop (length (bytes_of c)) at s) ∙ rw
    (e, drop-append_seam (bytes_of c) (string_of cs)) in
    rw (content_back limit c f s at (string_of cs) e, contents_back limit cs fs s (at + length (bytes_of c)) d)

-- ---- no two envelopes have the same bytes

pub coded_once : (limit : ℕ) → limit < 2 ^ 64 → (c d : Content) → Fit limit c → Fit limit d → bytes_of c ≡ bytes_of d → c ≡ d
coded_once limit w c d f g e =
    let x : bytes_of c ≡ bytes_of c ++ [] = sym (append-nil (bytes_of c)) in
    let y : bytes_of c ≡ bytes_of d ++ [] = e ∙ sym (append-nil (bytes_of d)) in
    let p = written_read limit w c f (bytes_of c) 0 [] x in
    let q = written_read limit w d g (bytes_of c) 0 [] y in
    let z : placed 0 c ≡ placed 0 d = cc in
    sym (content_back limit c f (bytes_of c) 0 [] x) ∙
    (ap (λ (k : Envelope). content_of (bytes_of c) k) z ∙ content_back limit d g (bytes_of c) 0 [] y)

-- ---- write, then read

module _ (room limit : ℕ) (w : limit < 2 ^ 64) (out : List ℕ) (kind job bits : ℕ) (body : List ℕ) (small : job < 2 ^ 64) where
  -- an answer of n bytes is an envelope
  pub record Wrote (z : List ℕ) (n : ℕ) : Type 0 where
    pub fit : Fit limit (content kind job bits body)
    pub count : n ≡ length (bytes_of (content kind job bits body))
    pub buffer : z ≡ bytes_of (content kind job bits body) ++ drop n out

  wrote_by : (a b : Bool) (z : List ℕ) (n : ℕ) → fits limit kind job bits body ≡ b
      → cond a (left (Err Room) out) (cond b (wrote (bytes_of (content kind job bits body)) out) (left (Err Shape) out)) ≡ left (Ok n) z
      → Wrote z n
  wrote_by true b z n p e = let x : Err Room ≡ Ok n = ap (λ (l : Left). l.answer) e in let o : ◌≡◌ {A = ℕ} 0 1 = cc in absurd (omega arith)
  wrote_by false false z n p e = let x : Err Shape ≡ Ok n = ap (λ (l : Left). l.answer) e in let o : ◌≡◌ {A = ℕ} 0 1 = cc in absurd (omega arith)
  wrote_by false true z n p e =
      let x : Ok (length (bytes_of (content kind job bits body))) ≡ Ok n = ap (λ (l : Left). l.answer) e in
      let y : bytes_of (content kind job bits body) ++ drop (length (bytes_of (content kind job bits body))) out ≡ z = ap
      (λ (l : Left). l.bytes) e in
      let m : n ≡ length (bytes_of (content kind job bits body)) = cc in
      record { fit = is_fit limit kind job bits body p small; count = m; buffer = rw m (sym y) }

  pub is_wrote : (z : List ℕ) (n : ℕ) → write_envelope room limit out kind job bits body ≡ left (Ok n) z → Wrote z n
  unfolding write_envelope
  is_wrote z n e = wrote_by (ltb (length out) room) (fits limit kind job bits body) z n refl e

  -- what was written is read back, and the next position is the answer
  pub record Back (z : List ℕ) (n : ℕ) : Type 0 where
    pub reads : envelope_at limit z 0 ≡ Ok (placed 0 (content kind job bits body))
    pub says : content_of z (placed 0 (content kind job bits body)) ≡ content kind job bits body
    pub next : (placed 0 (content kind job bits body)).next ≡ n

  pub write_read : (z : List ℕ) (n : ℕ) → write_envelope room limit out kind job bits body ≡ left (Ok n) z → Back z n
  unfolding placed
  write_read z n e =
      let r = is_wrote z n e in
      let o : 0 + length (bytes_of (content kind job bits body)) ≡ n = omega (arith, r.count) in
      record {
        reads = written_read limit w (content kind job bits body) r.fit z 0 (drop n out) r.buffer;
        says = content_back limit (content kind job bits body) r.fit z 0 (drop n out) r.buffer;
        next = o;
      }

-- ---- read, then write

fits_read : (limit : ℕ) (s : List ℕ) (e : Envelope) → Fit limit (content_of s e)
    → fits limit e.kind e.job e.bits (drop e.body s) ≡ true
unfolding fits
fits_read limit s e f =
    let l = length-take (bytes_for e.bits) (drop e.body s) in
    let h : bytes_for e.bits ≤ length (drop e.body s) = omega (arith, f.body) in
    rw (
      f.kind,
      f.job,
      f.size,
      le-leb (bytes_for e.bits) (length (drop e.body s)) h,
      ← padded_taken e.bits
          (drop e.body s) h,
    ) f.padded

-- the envelope that was read between two positions is written as the bytes between them
pub read_write : (room limit : ℕ) (s : List ℕ) (at : ℕ) (e : Envelope) (out : List ℕ) → AllBytes s
    → envelope_at limit s at ≡ Ok e → room ≤ length out
    → write_envelope room limit out e.kind e.job e.bits (drop e.body s) ≡ wrote (take (e.next - at) (drop at s)) out
unfolding write_envelope
read_write room limit s at e out b p h =
    let r = read_written limit s at b e p in
    let n : e.next ≡ at + length (bytes_of (content_of s e)) = ap (λ (x : Envelope). x.next) r.place ∙ placed_next at (content_of s e) in
    let k : length (bytes_of (content_of s e)) ≡ e.next - at = omega arith in
    let t : take (e.next - at) (drop at s) ≡ bytes_of (content_of s e) = rw r.holds
    (take_at (bytes_of (content_of s e)) (drop e.next s) (e.next - at) k) in
    rw (le-ltb (length out) room h, fits_read limit s e r.fit, t)
