-- The entries of one dialogue on a line that carries several, and the order of the numbers along it.
-- Assumes nothing.
use mathlib.Core.Path.{◌≡◌, refl, ap, sym, ◌∙◌, subst}
use mathlib.Core.Bool.{Bool, true, false, not, cond, ◌&&◌, ◌||◌}
use mathlib.Core.List.{List, [], ◌∷◌, ◌++◌}
use Prim.Native.Nat.{ℕ, zero, suc, ◌<◌, ◌≤◌}
use native.Mathlib.Omega.{arith}
use lib.Dec.{T, eqb, ltb, leb, eqb→eq, eqb_refl, ltb→lt, lt→ltb, leb→le, le→leb}
use lib.ListN.{take}
use Rattle.pair.specs.Carrier.{Machine, is_start}
use Rattle.pair.proofs.OneDialogue.{has_start, without_start}
use Rattle.pair.specs.Numbered.{Numbered, trim, start_of, n_has_start, n_without_start, on_line}
use Rattle.pair.proofs.NumberedMachine.{numbered}
use Rattle.pair.proofs.Finite.{and_l, and_r, both, is_t, T_is}

-- ---- numbers

pub yes : {X : Type 0} (b : Bool) (x y : X) → b ≡ true → cond b x y ≡ x
yes true x y e = refl
yes false x y e = absurd (subst T (sym e) tt)

pub nay : {X : Type 0} (b : Bool) (x y : X) → b ≡ false → cond b x y ≡ y
nay true x y e = absurd (subst T e tt)
nay false x y e = refl

pub eq_no : (a b : ℕ) → eqb a b ≡ true → a ≡ b
eq_no a b e = eqb→eq a b (T_is (eqb a b) e)

pub self : (n : ℕ) → eqb n n ≡ true
self n = is_t (eqb n n) (eqb_refl n)

pub differ : (a b : ℕ) → (a ≡ b → ⊥) → eqb a b ≡ false
differ a b h = go (eqb a b) refl
  where
    go : (c : Bool) → eqb a b ≡ c → eqb a b ≡ false
    go true q = absurd (h (eq_no a b q))
    go false q = q

pub below_differ : (a b : ℕ) → a < b → eqb a b ≡ false
below_differ a b h = differ a b (λ (e : a ≡ b). omega (arith, h, e))

pub above_differ : (a b : ℕ) → a < b → eqb b a ≡ false
above_differ a b h = differ b a (λ (e : b ≡ a). omega (arith, h, e))

module _ (m : Machine) where
  -- ---- the entries of number j

  abbrev pub pick : ℕ → List (Numbered m.E) → List m.E
  pick j [] = []
  pick j (e ∷ l) = cond (eqb e.no j) (e.it ∷ pick j l) (pick j l)

  pub snoc_same : (j : ℕ) (l : List (Numbered m.E)) (e : Numbered m.E) → eqb e.no j ≡ true
      → pick j (l ++ (e ∷ [])) ≡ pick j l ++ (e.it ∷ [])
  snoc_same j [] e q = yes (eqb e.no j) _ _ q
  snoc_same j (x ∷ l) e q = go (eqb x.no j) (snoc_same j l e q)
    where
      go : (b : Bool) → pick j (l ++ (e ∷ [])) ≡ pick j l ++ (e.it ∷ [])
          → cond b (x.it ∷ pick j (l ++ (e ∷ []))) (pick j (l ++ (e ∷ []))) ≡ cond b (x.it ∷ pick j l) (pick j l) ++ (e.it ∷ [])
      go true h = ap (λ (k : List m.E). x.it ∷ k) h
      go false h = h

  pub snoc_other : (j : ℕ) (l : List (Numbered m.E)) (e : Numbered m.E) → eqb e.no j ≡ false → pick j (l ++ (e ∷ [])) ≡ pick j l
  snoc_other j [] e q = nay (eqb e.no j) _ _ q
  snoc_other j (x ∷ l) e q = ap (λ (k : List m.E). cond (eqb x.no j) (x.it ∷ k) k) (snoc_other j l e q)

  trim_at : (j keep : ℕ) (l : List (Numbered m.E)) → pick j (trim (numbered m) j keep l) ≡ take keep (pick j l)
  trim_at j zero [] = refl
  trim_at j (suc k) [] = refl
  trim_at j zero (x ∷ l) = go (eqb x.no j) refl (trim_at j zero l)
    where
      go : (b : Bool) → eqb x.no j ≡ b → pick j (trim (numbered m) j zero l) ≡ []
          → pick j (cond b (trim (numbered m) j zero l) (x ∷ trim (numbered m) j zero l)) ≡ []
      go true q h = h
      go false q h = nay (eqb x.no j) _ _ q ∙ h
  trim_at j (suc k) (x ∷ l) = go (eqb x.no j) refl (trim_at j k l) (trim_at j (suc k) l)
    where
      go : (b : Bool) → eqb x.no j ≡ b → pick j (trim (numbered m) j k l) ≡ take k (pick j l)
          → pick j (trim (numbered m) j (suc k) l) ≡ take (suc k) (pick j l)
          → pick j (cond b (x ∷ trim (numbered m) j k l) (x ∷ trim (numbered m) j (suc k) l)) ≡ take (suc k)
          (cond b (x.it ∷ pick j l) (pick j l))
      go true q h g = yes (eqb x.no j) _ _ q ∙ ap (λ (n : List m.E). x.it ∷ n) h
      go false q h g = nay (eqb x.no j) _ _ q ∙ g

  pub trim_same : (v j keep : ℕ) (l : List (Numbered m.E)) → eqb v j ≡ true → pick j (trim (numbered m) v keep l) ≡ take keep (pick j l)
  trim_same v j keep l e = subst (λ (n : ℕ). pick j (trim (numbered m) n keep l) ≡ take keep (pick j l))
      (sym (eq_no v j e)) (trim_at j keep l)

  -- an entry of number v is none of number j
  off_no : (v j : ℕ) (x : Numbered m.E) → eqb v j ≡ false → eqb x.no v ≡ true → eqb x.no j ≡ false
  off_no v j x e q = ap (λ (n : ℕ). eqb n j) (eq_no x.no v q) ∙ e

  pub trim_other : (v j keep : ℕ) (l : List (Numbered m.E)) → eqb v j ≡ false → pick j (trim (numbered m) v keep l) ≡ pick j l
  trim_other v j zero [] e = refl
  trim_other v j (suc k) [] e = refl
  trim_other v j zero (x ∷ l) e = go (eqb x.no v) refl (trim_other v j zero l e)
    where
      go : (b : Bool) → eqb x.no v ≡ b → pick j (trim (numbered m) v zero l) ≡ pick j l
          → pick j (cond b (trim (numbered m) v zero l) (x ∷ trim (numbered m) v zero l)) ≡ cond (eqb x.no j) (x.it ∷ pick j l) (pick j l)
      go true q h = h ∙ sym (nay (eqb x.no j) _ _ (off_no v j x e q))
      go false q h = ap (λ (n : List m.E). cond (eqb x.no j) (x.it ∷ n) n) h
  trim_other v j (suc k) (x ∷ l) e = go (eqb x.no v) (trim_other v j k l e) (trim_other v j (suc k) l e)
    where
      go : (b : Bool) → pick j (trim (numbered m) v k l) ≡ pick j l → pick j (trim (numbered m) v (suc k) l) ≡ pick j l
          → pick j (cond b (x ∷ trim (numbered m) v k l) (x ∷ trim (numbered m) v (suc k) l)) ≡ cond (eqb x.no j)
          (x.it ∷ pick j l) (pick j l)
      go true h g = ap (λ (n : List m.E). cond (eqb x.no j) (x.it ∷ n) n) h
      go false h g = ap (λ (n : List m.E). cond (eqb x.no j) (x.it ∷ n) n) g

  -- ---- the start of number j

  pub has_at : (j : ℕ) (l : List (Numbered m.E)) → n_has_start (numbered m) j l ≡ has_start m (pick j l)
  has_at j [] = refl
  has_at j (x ∷ l) = go (is_start m x.it) (eqb x.no j) refl (has_at j l)
    where
      go : (b c : Bool) → is_start m x.it ≡ b → n_has_start (numbered m) j l ≡ has_start m (pick j l)
          → (b && c) || n_has_start (numbered m) j l ≡ has_start m (cond c (x.it ∷ pick j l) (pick j l))
      go true true p h = sym (ap (λ (z : Bool). z || has_start m (pick j l)) p)
      go false true p h = h ∙ sym (ap (λ (z : Bool). z || has_start m (pick j l)) p)
      go true false p h = h
      go false false p h = h

  pub without_at : (j : ℕ) (l : List (Numbered m.E)) → pick j (n_without_start (numbered m) j l) ≡ without_start m (pick j l)
  without_at j [] = refl
  without_at j (x ∷ l) = go (is_start m x.it) (eqb x.no j) refl refl (without_at j l)
    where
      go : (b c : Bool) → is_start m x.it ≡ b → eqb x.no j ≡ c → pick j (n_without_start (numbered m) j l) ≡ without_start m (pick j l)
          → pick j (cond (b && c) l (x ∷ n_without_start (numbered m) j l)) ≡ without_start m (cond c (x.it ∷ pick j l) (pick j l))
      go true true p q h = sym (yes (is_start m x.it) _ _ p)
      go false true p q h = yes (eqb x.no j) _ _ q ∙ ap (λ (n : List m.E). x.it ∷ n) h ∙ sym (nay (is_start m x.it) _ _ p)
      go true false p q h = nay (eqb x.no j) _ _ q ∙ h
      go false false p q h = nay (eqb x.no j) _ _ q ∙ h

  pub without_same : (v j : ℕ) (l : List (Numbered m.E)) → eqb v j ≡ true
      → pick j (n_without_start (numbered m) v l) ≡ without_start m (pick j l)
  without_same v j l e = subst (λ (n : ℕ). pick j (n_without_start (numbered m) n l) ≡ without_start m (pick j l))
      (sym (eq_no v j e)) (without_at j l)

  pub without_other : (v j : ℕ) (l : List (Numbered m.E)) → eqb v j ≡ false → pick j (n_without_start (numbered m) v l) ≡ pick j l
  without_other v j [] e = refl
  without_other v j (x ∷ l) e = go (is_start m x.it) (eqb x.no v) refl (without_other v j l e)
    where
      go : (b c : Bool) → eqb x.no v ≡ c → pick j (n_without_start (numbered m) v l) ≡ pick j l
          → pick j (cond (b && c) l (x ∷ n_without_start (numbered m) v l)) ≡ cond (eqb x.no j) (x.it ∷ pick j l) (pick j l)
      go true true q h = sym (nay (eqb x.no j) _ _ (off_no v j x e q))
      go false true q h = ap (λ (n : List m.E). cond (eqb x.no j) (x.it ∷ n) n) h
      go true false q h = ap (λ (n : List m.E). cond (eqb x.no j) (x.it ∷ n) n) h
      go false false q h = ap (λ (n : List m.E). cond (eqb x.no j) (x.it ∷ n) n) h

  pub none_on : (j : ℕ) (l : List (Numbered m.E)) → on_line (numbered m) l j ≡ false → pick j l ≡ []
  none_on j [] e = refl
  none_on j (x ∷ l) e = go (eqb x.no j) e (none_on j l)
    where
      go : (b : Bool) → b || on_line (numbered m) l j ≡ false → (on_line (numbered m) l j ≡ false → pick j l ≡ [])
          → cond b (x.it ∷ pick j l) (pick j l) ≡ []
      go true q h = absurd (subst T q tt)
      go false q h = h q

  -- ---- the line of the end that all starts come from: from b to n the numbers rise, at a start strictly

  abbrev pub past : Bool → ℕ → ℕ → Bool
  past true b w = ltb b w
  past false b w = leb b w

  abbrev pub orderly : ℕ → ℕ → List (Numbered m.E) → Bool
  orderly b n [] = leb b n
  orderly b n (e ∷ l) = past (is_start m e.it) b e.no && orderly e.no n l

  past_le : (c : Bool) (b w : ℕ) → T (past c b w) → b ≤ w
  past_le true b w t = let h = ltb→lt b w t in omega (arith, h)
  past_le false b w t = leb→le b w t

  past_down : (c : Bool) (a b w : ℕ) → a ≤ b → T (past c b w) → T (past c a w)
  past_down true a b w h t = let g = ltb→lt b w t in lt→ltb a w (omega (arith, h, g))
  past_down false a b w h t = let g = leb→le b w t in le→leb a w (omega (arith, h, g))

  pub orderly_le : (b n : ℕ) (l : List (Numbered m.E)) → T (orderly b n l) → b ≤ n
  orderly_le b n [] t = leb→le b n t
  orderly_le b n (e ∷ l) t =
      let h = past_le (is_start m e.it) b e.no (and_l (past (is_start m e.it) b e.no) _ t) in
      let g = orderly_le e.no n l (and_r (past (is_start m e.it) b e.no) _ t) in
      omega (arith, h, g)

  orderly_down : (a b n : ℕ) (l : List (Numbered m.E)) → a ≤ b → T (orderly b n l) → T (orderly a n l)
  orderly_down a b n [] h t = let g = leb→le b n t in le→leb a n (omega (arith, h, g))
  orderly_down a b n (e ∷ l) h t = both (past (is_start m e.it) a e.no) _
      (past_down (is_start m e.it) a b e.no h (and_l (past (is_start m e.it) b e.no) _ t))
      (and_r (past (is_start m e.it) b e.no) _ t)

  pub orderly_head : (b n : ℕ) (e : Numbered m.E) (l : List (Numbered m.E)) → T (orderly b n (e ∷ l)) → b ≤ e.no
  orderly_head b n e l t = past_le (is_start m e.it) b e.no (and_l (past (is_start m e.it) b e.no) _ t)

  pub orderly_past : (b n : ℕ) (e : Numbered m.E) (l : List (Numbered m.E)) → T (orderly b n (e ∷ l)) → T (orderly e.no n l)
  orderly_past b n e l t = and_r (past (is_start m e.it) b e.no) _ t

  pub orderly_start : (b n : ℕ) (e : Numbered m.E) (l : List (Numbered m.E)) → is_start m e.it ≡ true
      → T (orderly b n (e ∷ l)) → b < e.no
  orderly_start b n e l q t = ltb→lt b e.no
      (subst (λ (c : Bool). T (past c b e.no)) q (and_l (past (is_start m e.it) b e.no) _ t))

  pub orderly_tail : (b n : ℕ) (e : Numbered m.E) (l : List (Numbered m.E)) → T (orderly b n (e ∷ l)) → T (orderly b n l)
  orderly_tail b n e l t = orderly_down b e.no n l (orderly_head b n e l t) (orderly_past b n e l t)

  pub orderly_snoc : (b n : ℕ) (l : List (Numbered m.E)) (e : Numbered m.E) → T (orderly b n l)
      → T (past (is_start m e.it) n e.no) → T (orderly b e.no (l ++ (e ∷ [])))
  orderly_snoc b n [] e t h = both (past (is_start m e.it) b e.no) _
      (past_down (is_start m e.it) b n e.no (leb→le b n t) h) (le→leb e.no e.no (omega arith))
  orderly_snoc b n (x ∷ l) e t h = both (past (is_start m x.it) b x.no) _
      (and_l (past (is_start m x.it) b x.no) _ t)
      (orderly_snoc x.no n l e (and_r (past (is_start m x.it) b x.no) _ t) h)

  -- an entry may be kept or lost
  kept : (c : Bool) (b n : ℕ) (x : Numbered m.E) (l k h : List (Numbered m.E)) → T (orderly b n (x ∷ l))
      → T (orderly x.no n k) → T (orderly x.no n h) → T (orderly b n (cond c k (x ∷ h)))
  kept true b n x l k h t u w = orderly_down b x.no n k (orderly_head b n x l t) u
  kept false b n x l k h t u w = both (past (is_start m x.it) b x.no) _ (and_l (past (is_start m x.it) b x.no) _ t) w

  pub orderly_trim : (b n v keep : ℕ) (l : List (Numbered m.E)) → T (orderly b n l) → T (orderly b n (trim (numbered m) v keep l))
  orderly_trim b n v zero [] t = t
  orderly_trim b n v (suc k) [] t = t
  orderly_trim b n v zero (x ∷ l) t =
      let h = orderly_trim x.no n v zero l (orderly_past b n x l t) in
      kept (eqb x.no v) b n x l (trim (numbered m) v zero l) (trim (numbered m) v zero l) t h h
  orderly_trim b n v (suc k) (x ∷ l) t = go (eqb x.no v) (orderly_trim x.no n v k l (orderly_past b n x l t))
      (orderly_trim x.no n v (suc k) l (orderly_past b n x l t))
    where
      go : (c : Bool) → T (orderly x.no n (trim (numbered m) v k l))
          → T (orderly x.no n (trim (numbered m) v (suc k) l))
          → T (orderly b n (cond c (x ∷ trim (numbered m) v k l) (x ∷ trim (numbered m) v (suc k) l)))
      go true h g = both (past (is_start m x.it) b x.no) _ (and_l (past (is_start m x.it) b x.no) _ t) h
      go false h g = both (past (is_start m x.it) b x.no) _ (and_l (past (is_start m x.it) b x.no) _ t) g

  pub orderly_without : (b n v : ℕ) (l : List (Numbered m.E)) → T (orderly b n l) → T (orderly b n (n_without_start (numbered m) v l))
  orderly_without b n v [] t = t
  orderly_without b n v (x ∷ l) t = kept (start_of (numbered m) v x) b n x l l (n_without_start (numbered m) v l) t
      (orderly_past b n x l t) (orderly_without x.no n v l (orderly_past b n x l t))

  pub orderly_below : (a b n : ℕ) (l : List (Numbered m.E)) → T (orderly b n l) → a < b → pick a l ≡ []
  orderly_below a b n [] t h = refl
  orderly_below a b n (x ∷ l) t h =
      let g = orderly_head b n x l t in
      let w : a < x.no = omega (arith, h, g) in
      nay (eqb x.no a) _ _ (above_differ a x.no w) ∙ orderly_below a x.no n l (orderly_past b n x l t) w

  pub orderly_above : (b n j : ℕ) (l : List (Numbered m.E)) → T (orderly b n l) → n < j → pick j l ≡ []
  orderly_above b n j [] t h = refl
  orderly_above b n j (x ∷ l) t h =
      let g = orderly_le x.no n l (orderly_past b n x l t) in
      let w : x.no < j = omega (arith, h, g) in
      nay (eqb x.no j) _ _ (below_differ x.no j w) ∙ orderly_above x.no n j l (orderly_past b n x l t) h

  -- ---- the line of the other end: no start, no number above n

  abbrev pub tame : ℕ → List (Numbered m.E) → Bool
  tame n [] = true
  tame n (e ∷ l) = (not (is_start m e.it) && leb e.no n) && tame n l

  abbrev fits : ℕ → Numbered m.E → Bool
  fits n e = not (is_start m e.it) && leb e.no n

  pub tame_head : (n : ℕ) (e : Numbered m.E) (l : List (Numbered m.E)) → T (tame n (e ∷ l)) → T (not (is_start m e.it))
  tame_head n e l t = and_l (not (is_start m e.it)) _ (and_l (fits n e) _ t)

  pub tame_tail : (n : ℕ) (e : Numbered m.E) (l : List (Numbered m.E)) → T (tame n (e ∷ l)) → T (tame n l)
  tame_tail n e l t = and_r (fits n e) _ t

  pub tame_snoc : (n : ℕ) (l : List (Numbered m.E)) (e : Numbered m.E) → T (tame n l)
      → T (not (is_start m e.it)) → e.no ≤ n → T (tame n (l ++ (e ∷ [])))
  tame_snoc n [] e t h g = both (fits n e) true (both (not (is_start m e.it)) (leb e.no n) h (le→leb e.no n g)) tt
  tame_snoc n (x ∷ l) e t h g = both (fits n x) _ (and_l (fits n x) _ t) (tame_snoc n l e (tame_tail n x l t) h g)

  pub tame_up : (n w : ℕ) (l : List (Numbered m.E)) → n ≤ w → T (tame n l) → T (tame w l)
  tame_up n w [] h t = t
  tame_up n w (x ∷ l) h t =
      let g = leb→le x.no n (and_r (not (is_start m x.it)) _ (and_l (fits n x) _ t)) in
      both (fits w x) _ (both (not (is_start m x.it)) _ (tame_head n x l t) (le→leb x.no w (omega (arith, h, g))))
      (tame_up n w l h (tame_tail n x l t))

  tame_kept : (c : Bool) (n : ℕ) (x : Numbered m.E) (l k h : List (Numbered m.E)) → T (tame n (x ∷ l))
      → T (tame n k) → T (tame n h) → T (tame n (cond c k (x ∷ h)))
  tame_kept true n x l k h t u w = u
  tame_kept false n x l k h t u w = both (fits n x) _ (and_l (fits n x) _ t) w

  pub tame_trim : (n v keep : ℕ) (l : List (Numbered m.E)) → T (tame n l) → T (tame n (trim (numbered m) v keep l))
  tame_trim n v zero [] t = t
  tame_trim n v (suc k) [] t = t
  tame_trim n v zero (x ∷ l) t =
      let h = tame_trim n v zero l (tame_tail n x l t) in
      tame_kept (eqb x.no v) n x l (trim (numbered m) v zero l) (trim (numbered m) v zero l) t h h
  tame_trim n v (suc k) (x ∷ l) t = go (eqb x.no v) (tame_trim n v k l (tame_tail n x l t)) (tame_trim n v (suc k) l (tame_tail n x l t))
    where
      go : (c : Bool) → T (tame n (trim (numbered m) v k l)) → T (tame n (trim (numbered m) v (suc k) l))
          → T (tame n (cond c (x ∷ trim (numbered m) v k l) (x ∷ trim (numbered m) v (suc k) l)))
      go true h g = both (fits n x) _ (and_l (fits n x) _ t) h
      go false h g = both (fits n x) _ (and_l (fits n x) _ t) g

  pub tame_without : (n v : ℕ) (l : List (Numbered m.E)) → T (tame n l) → T (tame n (n_without_start (numbered m) v l))
  tame_without n v [] t = t
  tame_without n v (x ∷ l) t = tame_kept (start_of (numbered m) v x) n x l l (n_without_start (numbered m) v l) t
      (tame_tail n x l t) (tame_without n v l (tame_tail n x l t))

  pub tame_above : (n j : ℕ) (l : List (Numbered m.E)) → T (tame n l) → n < j → pick j l ≡ []
  tame_above n j [] t h = refl
  tame_above n j (x ∷ l) t h =
      let g = leb→le x.no n (and_r (not (is_start m x.it)) _ (and_l (fits n x) _ t)) in
      nay (eqb x.no j) _ _ (below_differ x.no j (omega (arith, h, g))) ∙ tame_above n j l (tame_tail n x l t) h
