-- Chains of links, and the labels that tell them. Assumes nothing.
use Rattle.std.proofs.Common.{◌≡◌, ℕ, ◌<◌, eqb, List, [], ◌∷◌, ◌++◌, length, get_or, All, sym, refl, ap, ◌∙◌, subst, inl, inr, ⊎_elim, append_assoc, append-nil, arith}
use Rattle.std.specs.List.{range_with_len}
use Rattle.std.proofs.lemmas.List.FromFn.{length-range_with_len, get_or-range_with_len}
use Rattle.std.proofs.lemmas.List.Elements.{Contains-append_left, Contains-push, Contains-push_cases, All-contains, All-head, All-tail}
use Rattle.std.proofs.lemmas.List.{get_or-map, length-map}
use Rattle.std.proofs.lemmas.Bool.{cases_eq, eq-eqb, ne_eqb, cond-true, cond-false}
use Rattle.layout.specs.Graph.{relabelled, merged, merged_all, Labellable, labels}
use Rattle.layout.specs.WellFormed.{Same, Linked, Chain, stay, along}
use Rattle.layout.specs.declared.link.Link.{Link}
use Rattle.layout.specs.declared.link.Pair.{Pair}

pub chain_join : {links : List Link} {a b c : ℕ} → Chain links a b → Chain links b c → Chain links a c
chain_join (stay a) h = h
chain_join (along a b c l rest) h = along _ _ _ l (chain_join rest h)

-- the two ends the other way round
turned : (p : Pair) (a b : ℕ) → Same p (record { a = a; b = b }) → Same p (record { a = b; b = a })
turned p a b (inl h) = inr h
turned p a b (inr h) = inl h

linked_back : (links : List Link) (a b : ℕ) → Linked links a b → Linked links b a
linked_back links a b h = (h.0, h.1, turned h.0.ends a b h.2)

pub chain_back : {links : List Link} {a b : ℕ} → Chain links a b → Chain links b a
chain_back (stay a) = stay a
chain_back {links} (along a b c l rest) = chain_join (chain_back rest) (along b a a (linked_back links a b l) (stay a))

chain_more : {links : List Link} {a b : ℕ} (l : Link) → Chain links a b → Chain (links ++ l ∷ []) a b
chain_more l (stay a) = stay a
chain_more {links} l (along a b c h rest) = along a b c (h.0, Contains-append_left links (l ∷ []) h.0 h.1, h.2) (chain_more l rest)

abbrev label : List ℕ → ℕ → ℕ
label ls v = get_or ls v 0

-- routers have one label exactly if the links join them
pub record Labelled (links : List Link) (ls : List ℕ) : Type 0 where
  pub long : length ls ≡ 32
  pub tells : (v w : ℕ) → v < 32 → w < 32 → label ls v ≡ label ls w → Chain links v w
  pub keeps : (v w : ℕ) → v < 32 → w < 32 → Linked links v w → label ls v ≡ label ls w

no_link : (v w : ℕ) → Linked [] v w → ⊥
no_link v w h = omega (arith, h.1.1)

labelled_none : Labelled [] (range_with_len 0 32)
labelled_none = record {
  long = length-range_with_len 0 32;
  tells = λ v w hv hw e.
      let same : v ≡ w = omega (arith, get_or-range_with_len 0 32 v 0 hv, get_or-range_with_len 0 32 w 0 hw) in
      subst (λ x. Chain [] v x) same (stay v);
  keeps = λ v w hv hw h. absurd (no_link v w h);
}

pub hit : (old new x : ℕ) → x ≡ old → relabelled old new x ≡ new
hit old new x e = cond-true (eqb x old) new x (eq-eqb x old e)

pub miss : (old new x : ℕ) → (x ≡ old → ⊥) → relabelled old new x ≡ x
miss old new x ne = cond-false (eqb x old) new x (ne_eqb x old ne)

-- the new label stays
new_stays : (old new : ℕ) → relabelled old new new ≡ new
new_stays old new = ⊎_elim (λ e. hit old new new e) (λ ne. miss old new new ne) (cases_eq new old)

module _ (links : List Link) (ls : List ℕ) (l : Link) (told : Labelled links ls) (fits : Labellable l) where
  abbrev old : ℕ
  old = label ls l.ends.b

  abbrev new : ℕ
  new = label ls l.ends.a

  now_label : (v : ℕ) → v < 32 → label (merged ls l) v ≡ relabelled old new (label ls v)
  now_label v lt = get_or-map (relabelled old new) ls v 0 0 (omega (arith, told.long))

  -- from what had the old label to what has the new one, over l
  across : (v w : ℕ) → v < 32 → w < 32 → label ls v ≡ old → new ≡ label ls w → Chain (links ++ l ∷ []) v w
  across v w hv hw e f =
      chain_join (chain_more l (told.tells v l.ends.b hv fits.1 e))
      (along _ _ _ (l, Contains-push links l, inr (refl, refl)) (chain_more l (told.tells l.ends.a w fits.0 hw f)))

  one_label : (v w : ℕ) → v < 32 → w < 32 → relabelled old new (label ls v) ≡ relabelled old new (label ls w) → Chain (links ++ l ∷ []) v w
  one_label v w hv hw e =
      ⊎_elim
      (λ hv_old. ⊎_elim
      (λ hw_old. chain_more l (told.tells v w hv hw (hv_old ∙ sym hw_old)))
      (λ hw_not. across v w hv hw hv_old (sym (hit old new _ hv_old) ∙ e ∙ miss old new _ hw_not))
      (cases_eq (label ls w) old))
      (λ hv_not. ⊎_elim
      (λ hw_old. chain_back (across w v hw hv hw_old (sym (hit old new _ hw_old) ∙ sym e ∙ miss old new _ hv_not)))
      (λ hw_not. chain_more l (told.tells v w hv hw (sym (miss old new _ hv_not) ∙ e ∙ miss old new _ hw_not)))
      (cases_eq (label ls w) old))
      (cases_eq (label ls v) old)

  both_ends : (v w : ℕ) → Same l.ends (record { a = v; b = w }) → relabelled old new (label ls v) ≡ relabelled old new (label ls w)
  both_ends v w (inl h) =
      ap (λ x. relabelled old new (label ls x)) (sym h.0) ∙ new_stays old new ∙ sym (hit old new old refl) ∙ ap (λ x. relabelled old new (label ls x)) h.1
  both_ends v w (inr h) =
      ap (λ x. relabelled old new (label ls x)) (sym h.1) ∙ hit old new old refl ∙ sym (new_stays old new) ∙ ap (λ x. relabelled old new (label ls x)) h.0

  linked_alike : (v w : ℕ) → v < 32 → w < 32 → Linked (links ++ l ∷ []) v w → relabelled old new (label ls v) ≡ relabelled old new (label ls w)
  linked_alike v w hv hw h =
      ⊎_elim
      (λ early. ap (relabelled old new) (told.keeps v w hv hw (h.0, early, h.2)))
      (λ last. both_ends v w (subst (λ (m : Link). Same m.ends (record { a = v; b = w })) (sym last) h.2))
      (Contains-push_cases links l h.0 h.1)

  labelled_more : Labelled (links ++ l ∷ []) (merged ls l)
  labelled_more = record {
    long = length-map ls (relabelled old new) ∙ told.long;
    tells = λ v w hv hw e. one_label v w hv hw (sym (now_label v hv) ∙ e ∙ now_label w hw);
    keeps = λ v w hv hw h. now_label v hv ∙ linked_alike v w hv hw h ∙ sym (now_label w hw);
  }

labelled_rest : (links : List Link) (ls : List ℕ) (more : List Link) → Labelled links ls → All Labellable more → Labelled (links ++ more) (merged_all ls more)
labelled_rest links ls [] told fits = subst (λ x. Labelled x ls) (sym (append-nil links)) told
labelled_rest links ls (l ∷ more) told fits =
    subst (λ x. Labelled x (merged_all (merged ls l) more)) (append_assoc links (l ∷ []) more)
    (labelled_rest (links ++ l ∷ []) (merged ls l) more (labelled_more links ls l told (All-head Labellable l more fits)) (All-tail Labellable l more fits))

pub labelled : (links : List Link) → All Labellable links → Labelled links (labels links)
labelled links fits = labelled_rest [] (range_with_len 0 32) links labelled_none fits

-- a chain keeps the label
pub end_below : (n : ℕ) (p : Pair) (v w : ℕ) → (p.a < n) × (p.b < n) → Same p (record { a = v; b = w }) → w < n
end_below n p v w fits (inl h) = subst (λ x. x < n) h.1 fits.1
end_below n p v w fits (inr h) = subst (λ x. x < n) h.0 fits.0

pub chain_label : (links : List Link) (ls : List ℕ) → Labelled links ls → All Labellable links → {v w : ℕ} → v < 32 → Chain links v w → label ls v ≡ label ls w
chain_label links ls told fits hv (stay a) = refl
chain_label links ls told fits hv (along a b c h rest) =
    let hb : b < 32 = end_below 32 h.0.ends a b (All-contains Labellable links h.0 fits h.1) h.2 in
    told.keeps a b hv hb h ∙ chain_label links ls told fits hb rest
