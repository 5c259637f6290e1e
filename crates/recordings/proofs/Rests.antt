-- The rest that is handed back is the one that the call's answer names, wherever the call is not refused.
-- Assumes nothing.
use mathlib.Core.Path.{◌≡◌, refl}
use mathlib.Core.Bool.{Bool, true, false, cond}
use mathlib.Core.List.{List, []}
use Prim.Native.Nat.{ℕ}
use native.Mathlib.Omega.{arith}
use lib.Dec.{ltb, eqb}
use lib.ListN.{length, drop, drop_of_length-le}
use borrow.Author.Tests.{ltb-false}
use Rattle.envelope.specs.Envelopes.{refusal_number}
use Rattle.envelope.specs.declared.EnvelopeRefusal.{EnvelopeRefusal}
use Rattle.envelope.specs.declared.EnvelopeRefusal.TheVariants.{Cut, Groups, Kind, Size}
use Rattle.recordings.specs.Jobs.{only_first, only_second, repeated}
use Rattle.recordings.specs.Recordings.{most_bytes, jobs, chosen, searched, difference, rest_by, rest_in, rest_of, handed_back}
use Rattle.recordings.proofs.Findings.{Searched}
use Rattle.recordings.specs.Showing.{shown, refused_with, longer, rest_at, reported, lacks, showing, searched_by, compared}
use Rattle.recordings.specs.declared.Difference.{Difference}
use Rattle.recordings.specs.declared.Compared.{Compared}
use Rattle.recordings.specs.declared.Counts.{Counts}
use Rattle.std.specs.Prelude.{Err, None, Ok, Option, Some}

-- the part of the lent bytes that an answer names
abbrev pub part_of : Compared → List ℕ → List ℕ → List ℕ
part_of r a b = cond (eqb r.recording 0) [] (drop r.byte (chosen r.recording a b))

a_number : (r : EnvelopeRefusal) → refusal_number r ≡ 0 → ⊥
a_number Cut e = absurd (omega arith)
a_number Groups e = absurd (omega arith)
a_number Kind e = absurd (omega arith)
a_number Size e = absurd (omega arith)

named : (a b : List ℕ) (d : Option Difference) (c : Counts) → rest_by d a b ≡ part_of (reported (length a) (length b) d c) a b
unfolding reported longer rest_at chosen
named a b (Some d) c = refl
named a b None c = by (ltb (length a) (length b)) (ltb (length b) (length a)) refl refl
  where
    by : (p q : Bool) → ltb (length a) (length b) ≡ p → ltb (length b) (length a) ≡ q
        → cond p (drop (length a) b) (drop (length b) a) ≡ cond (eqb (cond p 2 (cond q 1 0)) 0) [] (drop (cond p (length a) (cond q (length b) 0)) (cond (eqb (cond p 2 (cond q 1 0)) 1) a b))
    by true q g h = refl
    by false true g h = refl
    by false false g h = drop_of_length-le a {i = length b} (ltb-false (length b) (length a) h)

pub rest_named : (limit : ℕ) (a b x y z : List ℕ) → (compared limit a b x y z).answer.refusal ≡ 0
    → handed_back limit a b ≡ part_of (compared limit a b x y z).answer a b
unfolding compared handed_back rest_of searched_by showing
rest_named limit a b x y z e = by (ltb most_bytes (length a)) (ltb most_bytes (length b)) e
  where
    fits : (l m n : Bool) (u v w : List ℕ) (c : Counts)
        → (cond l (shown (refused_with 1 0 0) x y z) (cond m (shown (refused_with 1 0 0) x y z) (cond n (shown (refused_with 1 0 0) x y z) (shown (reported (length a) (length b) (difference limit a b) c) u v w)))).answer.refusal ≡ 0
        → rest_by (difference limit a b) a b ≡ part_of (cond l (shown (refused_with 1 0 0) x y z) (cond m (shown (refused_with 1 0 0) x y z) (cond n (shown (refused_with 1 0 0) x y z) (shown (reported (length a) (length b) (difference limit a b) c) u v w)))).answer a b
    fits true m n u v w c g = absurd (omega arith)
    fits false true n u v w c g = absurd (omega arith)
    fits false false true u v w c g = absurd (omega arith)
    fits false false false u v w c g = named a b (difference limit a b) c

    on : (s : Searched) → (searched_by limit a b x y z s).answer.refusal ≡ 0
        → rest_in s (difference limit a b) a b ≡ part_of (searched_by limit a b x y z s).answer a b
    on (Err s) g = absurd (a_number s.refusal g)
    on (Ok u) g = fits (lacks (only_first (jobs limit a) (jobs limit b)) x)
        (lacks (only_second (jobs limit a) (jobs limit b)) y) (lacks (repeated (jobs limit a) (jobs limit b)) z) _ _ _ _
        g

    by : (s t : Bool)
        → (cond s (shown (refused_with 2 0 0) x y z) (cond t (shown (refused_with 2 0 0) x y z) (searched_by limit a b x y z (searched limit a b)))).answer.refusal ≡ 0
        → cond s [] (cond t [] (rest_in (searched limit a b) (difference limit a b) a b)) ≡ part_of (cond s (shown (refused_with 2 0 0) x y z) (cond t (shown (refused_with 2 0 0) x y z) (searched_by limit a b x y z (searched limit a b)))).answer a b
    by true t g = refl
    by false true g = refl
    by false false g = on (searched limit a b) g
