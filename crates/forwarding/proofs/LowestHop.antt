-- The lowest of the routers to which links lead is the next hop. Assumes nothing.
use Rattle.std.proofs.Common.{◌≡◌, ℕ, zero, suc, ◌+◌, ◌≤◌, min, List, [], ◌∷◌, ◌++◌, length, get_or, take, Some, None, Option, sym, refl, ap, ◌∙◌, subst, add-one, arith}
use Rattle.std.specs.List.{filter_map, cons_option, fold, reduce}
use Rattle.std.proofs.Math.Nat.{min_comm}
use Rattle.std.proofs.lemmas.List.{append-nil, take_more, take_all}
use Rattle.std.proofs.lemmas.List.Elements.{filter_map-append}
use Rattle.std.proofs.lemmas.List.Sums.{fold_push}
use Rattle.costs.specs.Cost.{plain}
use Rattle.costs.proofs.Plain.{plain_laws}
use Rattle.layout.specs.Table.{Declared}
use Rattle.layout.specs.WellFormed.{WellFormed}
use Rattle.layout.specs.declared.link.Link.{Link}
use Rattle.packets.specs.Hops.{hop, lead_along}
use Rattle.packets.proofs.HopLoops.{the_lower, Over, over_none, over_more, over_all}

-- the lowest of a list to which one more is added, if there is one
lowest_push : (xs : List ℕ) (o : Option ℕ) → reduce min (xs ++ cons_option o []) ≡ the_lower o (reduce min xs)
lowest_push xs None = ap (reduce min) (append-nil xs)
lowest_push [] (Some y) = refl
lowest_push (x ∷ xs) (Some y) = ap Some (fold_push min x xs y ∙ min_comm (fold min x xs) y)

module _ (t : Declared) (v e : ℕ) where
  abbrev lowest : List Link → Option ℕ
  lowest links = reduce min (filter_map (lead_along plain t v e) links)

  no_link : Link
  no_link = record { ends = record { a = 0; b = 0 }; metric = 0 }

  over_first : (links : List Link) (i : ℕ) → i ≤ length links → Over plain plain_laws t v e (take i links) (lowest (take i links))
  over_first links zero le = over_none plain plain_laws t v e
  over_first links (suc i) le =
      let one_more : lowest (take (i + 1) links) ≡ the_lower (lead_along plain t v e (get_or links i no_link)) (lowest (take i links)) =
      ap lowest (take_more links i no_link (omega (arith, le))) ∙ ap (reduce min) (filter_map-append (lead_along plain t v e) (take i links) (get_or links i no_link ∷ []))
      ∙ lowest_push (filter_map (lead_along plain t v e) (take i links)) (lead_along plain t v e (get_or links i no_link)) in
      subst (λ k. Over plain plain_laws t v e (take k links) (lowest (take k links))) (add-one i)
      (subst (Over plain plain_laws t v e (take (i + 1) links)) (sym one_more) (over_more plain plain_laws t v e links i no_link _ (omega (arith, le)) (over_first links i (omega (arith, le)))))

  pub lowest_is : WellFormed t → lowest t.links ≡ hop plain t v e
  lowest_is w =
      ap lowest (sym (take_all (length t.links) t.links (omega arith)))
      ∙ over_all plain plain_laws t v e w.sound.links_fit (length t.links) _ (omega arith) (over_first t.links (length t.links) (omega arith))
