-- "Equal recordings give no differing envelope, no job in only one and no rest, and only equal ones do" (document 02, E13).
-- Assumes nothing.
use mathlib.Core.Path.{◌≡◌, refl, ap, sym, ◌∙◌}
use mathlib.Core.Bool.{Bool, true, false, cond, ◌&&◌}
use mathlib.Core.List.{List, [], ◌∷◌, ◌++◌, append_assoc, append-nil}
use Prim.Native.Nat.{ℕ, zero, suc, ◌+◌, ◌-◌}
use native.Mathlib.Omega.{arith}
use lib.Dec.{ltb, eqb}
use lib.ListN.{length, drop, length-append, length-drop}
use lib.Seq.{drop-length}
use borrow.Author.Tests.{lt-ltb, le-ltb, ne_eqb, ltb-true, ltb-false}
use Rattle.envelope.specs.Envelopes.{Content, bytes_of}
use Rattle.envelope.specs.Strings.{string_of, Ending, ended, stopped, Walk, walk, Told, whole, broken, contents_of}
use Rattle.envelope.specs.declared.EnvelopeRefusal.{EnvelopeRefusal}
use Rattle.envelope.proofs.Numbers.{AllBytes}
use Rattle.envelope.proofs.Both.{contents_back}
use Rattle.envelope.proofs.Strings.{every_string}
use Rattle.recordings.specs.Jobs.{times, only, only_first, only_second, rising}
use Rattle.recordings.specs.Recordings.{contents, stop_in, searched, field_of, differ, difference, rest_by, rest_in, rest_of}
use Rattle.recordings.proofs.Findings.{Searched, stop, found}
use Rattle.recordings.proofs.Differences.{never, field_none, field_refl, differ_none, differ_on, differ_here}
use Rattle.recordings.proofs.Members.{Alike, alike, apart, alike?, keep_none}
use Rattle.std.specs.Prelude.{Err, None, Ok, Some}

-- ---- equal ones give nothing

differ_same : (i at : ℕ) (xs : List Content) → differ i at xs xs ≡ None
differ_same i at [] = differ_none i at []
differ_same i at (x ∷ xs) = differ_on i at x x xs xs (field_refl x) ∙ differ_same (i + 1) (at + length (bytes_of x)) xs

pub equal_same : (limit : ℕ) (a : List ℕ) → difference limit a a ≡ None
unfolding difference
equal_same limit a = differ_same 0 0 (contents limit a)

none_only : (t : ℕ) → (ltb 0 t && eqb t 0) ≡ false
none_only zero = refl
none_only (suc t) = rw (lt-ltb 0 (suc t) (omega arith)) (ne_eqb (suc t) 0 (λ (e : suc t ≡ 0). absurd (omega arith)))

pub equal_first : (js : List ℕ) → only_first js js ≡ []
unfolding only_first
equal_first js = keep_none (λ (x : ℕ). only js js x) (rising js js) (λ (x : ℕ). none_only (times x js))

pub equal_second : (js : List ℕ) → only_second js js ≡ []
unfolding only_second
equal_second js = keep_none (λ (x : ℕ). only js js x) (rising js js) (λ (x : ℕ). none_only (times x js))

pub equal_rest : (limit : ℕ) (a : List ℕ) → rest_of limit a a ≡ []
unfolding rest_of
equal_rest limit a = by (searched limit a a)
  where
    by : (s : Searched) → rest_in s (difference limit a a) a a ≡ []
    by (Ok u) = rw (equal_same limit a, le-ltb (length a) (length a) (omega arith)) (drop-length a)
    by (Err s) = refl

-- ---- and only they

-- a recording that is read to its end: its envelopes, and their bytes
record Reads (limit : ℕ) (a : List ℕ) : Type 0 where
  pub says : List Content
  pub bytes : a ≡ string_of says
  pub read : contents limit a ≡ says

told_reads : (limit : ℕ) (a : List ℕ) (w : Walk) → Told limit a 0 w → walk limit a ≡ w
    → ((r : EnvelopeRefusal) (k : ℕ) → w.ending ≡ stopped r k → ⊥) → Reads limit a
told_reads limit a w (whole cs fits e) g n = record { says = cs; bytes = e; read = ap (λ (v : Walk). contents_of a v.envelopes) g ∙ contents_back limit cs fits a 0 e }
told_reads limit a w (broken cs t r fits e h q) g n = absurd (n r (0 + length (string_of cs)) refl)

first_ends : (limit : ℕ) (a b : List ℕ) → searched limit a b ≡ Ok tt → (r : EnvelopeRefusal) (k : ℕ)
    → (walk limit a).ending ≡ stopped r k → ⊥
unfolding searched
first_ends limit a b e r k g = let w : ◌≡◌ {A = Searched} (Err (stop r 1 k)) (Ok tt) = rw g at e in never (cc)

second_ends : (limit : ℕ) (a b : List ℕ) → searched limit a b ≡ Ok tt → (r : EnvelopeRefusal) (k : ℕ)
    → (walk limit b).ending ≡ stopped r k → ⊥
unfolding searched
second_ends limit a b e r k g = by (walk limit a).ending (rw g at e)
  where
    by : (x : Ending) → stop_in 1 x (Err (stop r 2 k)) ≡ Ok tt → ⊥
    by (ended n) h = never (cc)
    by (stopped f n) h = never (cc)

-- one of two lists begins with the other
data Begins (xs ys : List Content) : Type 0 where
  longer : (t : List Content) → xs ≡ ys ++ t → Begins xs ys
  shorter : (t : List Content) → ys ≡ xs ++ t → Begins xs ys

begins : (i at : ℕ) (xs ys : List Content) → differ i at xs ys ≡ None → Begins xs ys
begins i at [] ys e = shorter ys refl
begins i at (x ∷ xs) [] e = longer (x ∷ xs) refl
begins i at (x ∷ xs) (y ∷ ys) e = by (alike? (field_of x y) 0) (λ
    (g : differ (i + 1) (at + length (bytes_of x)) xs ys ≡ None). begins (i + 1) (at + length (bytes_of x)) xs ys
    g)
  where
    on : x ≡ y → Begins xs ys → Begins (x ∷ xs) (y ∷ ys)
    on p (longer t q) = longer t (rw (p, q))
    on p (shorter t q) = shorter t (rw (p, q))

    by : Alike (field_of x y) 0 → (differ (i + 1) (at + length (bytes_of x)) xs ys ≡ None → Begins xs ys) → Begins (x ∷ xs) (y ∷ ys)
    by (alike g) k = on (field_none x y g) (k (sym (differ_on i at x y xs ys g) ∙ e))
    by (apart n) k = let w : Some (found i at (field_of x y)) ≡ None = sym (differ_here i at x y xs ys n) ∙ e in never (cc)

string_append : (xs ys : List Content) → string_of (xs ++ ys) ≡ string_of xs ++ string_of ys
unfolding string_of
string_append [] ys = refl
string_append (x ∷ xs) ys = rw (string_append xs ys) (sym (append_assoc (bytes_of x) (string_of xs) (string_of ys)))

no_bytes : (l : List ℕ) → length l ≡ 0 → l ≡ []
no_bytes [] e = refl
no_bytes (x ∷ xs) e = absurd (omega arith)

-- no rest: both are as long
same_length : (a b : List ℕ) → rest_by None a b ≡ [] → length a ≡ length b
same_length a b e = by (ltb (length a) (length b)) refl e
  where
    by : (t : Bool) → ltb (length a) (length b) ≡ t → cond t (drop (length a) b) (drop (length b) a) ≡ [] → length a ≡ length b
    by true g k =
        let h = ltb-true (length a) (length b) g in
        let z : length b - length a ≡ 0 = sym (length-drop (length a) b) ∙ ap length k in
        absurd (omega arith)
    by false g k =
        let h = ltb-false (length a) (length b) g in
        let z : length a - length b ≡ 0 = sym (length-drop (length b) a) ∙ ap length k in
        omega arith

joined : (a b u : List ℕ) → b ≡ a ++ u → length a ≡ length b → a ≡ b
joined a b u e l =
    let n : length b ≡ length a + length u = ap length e ∙ length-append a u in
    let z : u ≡ [] = no_bytes u (omega arith) in
    sym (append-nil a) ∙ (ap (λ (v : List ℕ). a ++ v) (sym z) ∙ sym e)

pub only_equal : (limit : ℕ) (a b : List ℕ) → AllBytes a → AllBytes b → searched limit a b ≡ Ok tt
    → difference limit a b ≡ None → rest_of limit a b ≡ [] → a ≡ b
unfolding rest_of difference
only_equal limit a b p q s d r =
    let x = told_reads limit a (walk limit a) (every_string limit a p) refl (first_ends limit a b s) in
    let y = told_reads limit b (walk limit b) (every_string limit b q) refl (second_ends limit a b s) in
    let l : length a ≡ length b = same_length a b (rw (s, d) at r) in
    by x y l (begins 0 0 x.says y.says (rw (x.read, y.read) at d))
  where
    by : (x : Reads limit a) (y : Reads limit b) → length a ≡ length b → Begins x.says y.says → a ≡ b
    by x y l (longer t e) = sym (joined b a (string_of t) (x.bytes ∙
        (ap string_of e ∙ (string_append y.says t ∙ ap (λ (v : List ℕ). v ++ string_of t) (sym y.bytes))))
        (sym l))
    by x y l (shorter t e) = joined a b (string_of t) (y.bytes ∙
        (ap string_of e ∙ (string_append x.says t ∙ ap (λ (v : List ℕ). v ++ string_of t) (sym x.bytes)))) l
