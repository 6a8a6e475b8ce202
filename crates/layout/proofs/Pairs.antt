-- Pairs of routers: what the tests tell, and pairs that do not repeat. Assumes nothing.
use Rattle.std.proofs.Common.{ℕ, ◌≤◌, leb, List, [], ◌∷◌, ◌++◌, get_or, Decides, All, Contains, sym, refl, subst, inl, inr, arith}
use Rattle.std.proofs.lemmas.List.Elements.{All-nil, All-cons, All-push, All-contains, Contains-get_or, Contains-append_right, at_from_Contains}
use Rattle.std.proofs.lemmas.Bool.{leb-true, le-leb}
use Rattle.std.proofs.lemmas.Bool.Decides.{Decides-eqb, Decides-and, Decides-or, Decides-by_or, Decides-like}
use Rattle.layout.specs.Checks.{same_pair, repeats, wrong_pair}
use Rattle.layout.specs.Rules.{Again, Wrong}
use Rattle.layout.specs.WellFormed.{Same, Apart}
use Rattle.layout.specs.declared.link.Pair.{Pair}

pub decides_leb : (a b : ℕ) → Decides (leb a b) (a ≤ b)
decides_leb a b = (leb-true a b, le-leb a b)

pub decides_same : (p q : Pair) → Decides (same_pair p q) (Same p q)
decides_same p q = Decides-or _ _ (Decides-and _ _ (Decides-eqb _ _) (Decides-eqb _ _)) (Decides-and _ _ (Decides-eqb _ _) (Decides-eqb _ _))

pub same_back : (p q : Pair) → Same p q → Same q p
same_back p q (inl h) = inl (sym h.0, sym h.1)
same_back p q (inr h) = inr (sym h.1, sym h.0)

pub decides_repeats : (p : Pair) (ps : List Pair) → Decides (repeats p ps) (Again p ps)
decides_repeats p ps =
    Decides-like (repeats p ps) (λ h. (get_or ps h.0 p, Contains-get_or ps h.0 p h.1, h.2 p)) (λ h. let at = at_from_Contains ps h.0 h.1 in (at.0, at.1, λ d. subst (Same p) (sym (at.2 d)) h.2))
    (Decides-by_or (same_pair p) (Same p) (repeats p) (decides_same p) refl (λ _ _. refl) ps)

pub decides_wrong : (p : Pair) (ps : List Pair) → Decides (wrong_pair p ps) (Wrong p ps)
decides_wrong p ps = Decides-or _ _ (Decides-eqb _ _) (decides_repeats p ps)

pub has_first : {X : Type 0} (x : X) (xs : List X) → Contains (x ∷ xs) x
has_first x xs = Contains-get_or (x ∷ xs) 0 x (omega arith)

pub apart_push : (ps : List Pair) (p : Pair) → Apart ps → (Again p ps → ⊥) → Apart (ps ++ p ∷ [])
apart_push [] p a new = (All-nil (λ q. Same p q → ⊥), tt)
apart_push (x ∷ ps) p a new = (
  All-push (λ q. Same x q → ⊥) ps p a.0 (λ s. new (x, has_first x ps, same_back x p s)),
  apart_push ps p a.1 (λ h. new (h.0, Contains-append_right (x ∷ []) ps h.0 h.1, h.2)),
)

-- what comes later is new to what comes before
apart_before : (done : List Pair) (p : Pair) (todo : List Pair) → Apart (done ++ p ∷ todo) → All (λ q. Same p q → ⊥) done
apart_before [] p todo a = All-nil (λ q. Same p q → ⊥)
apart_before (x ∷ done) p todo a =
    All-cons (λ q. Same p q → ⊥) x done
    (λ s. All-contains (λ q. Same x q → ⊥) (done ++ p ∷ todo) p a.0 (Contains-append_right done (p ∷ todo) p (has_first p todo)) (same_back p x s))
    (apart_before done p todo a.1)

pub apart_new : (done : List Pair) (p : Pair) (todo : List Pair) → Apart (done ++ p ∷ todo) → Again p done → ⊥
apart_new done p todo a h = All-contains (λ q. Same p q → ⊥) done h.0 (apart_before done p todo a) h.1 h.2
