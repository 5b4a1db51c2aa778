-- `of_parts` moves the two fields, and what they own goes with them.
use Rattle.range_map_c.proofs.Steps.{refl, sym, subst, ◌≡◌, List, [], ◌∷◌, ◌++◌, Val, SProp, ent, emp, id⊢, ftrue, WpFn, ‵, raw, ◌⊛◌, ◌$◌, ◌∵◌, !, qed, by, keep, drop, split, fsplit, fjoin, suffices, use0, stop, fld, of_opd, no_more, and_then, returns, enter, alloc_all, pass_all, free_all, look_at, get, get_in, sets, agg, sub, whole, fact, fact_i, tables, yes, owns, block_ptr, types_at, plain, nothing, Stays, stay_dropped, walk_of, Goes-dropped, proved_at, leaves, and_tt}
use Rattle.range_map_c.specs.Handle.{Entries, row_entries}
use Rattle.range_map_c.specs.contracts.handle.Map.{the_row as R}
use Rattle.range_map_c.proofs.Words.{Parts, word, map_in, boxed_in, parts_out}
use Rattle.range_map_c.specs.contracts.handle.RangeMap.of_parts.{ended, clauses}
use Rattle.range_map_c.specs.contracts.handle.RangeMap.of_parts.Key.{name as #self}
use Rattle.range_map_c.proofs.handle.RangeMap.of_parts.Statement.{statement}
use Rattle.range_map_c.proofs.handle.RangeMap.of_parts.Code as code

abbrev hs : Stays ended.signature.params ended.kept
hs = (stay_dropped (plain (λ _. Parts R)) yes, tt)

pub of_parts_spec : {M : Type 1} → statement M
of_parts_spec 𝓤 𝓛 𝓜 𝓡 wired =
    let H = 𝓛.H in let 𝓣 = tables 𝓤 H 𝓜 𝓡 𝓡.env in let c = clauses 𝓛 𝓜.mem 𝓡.returns in let fn = code.function in
    proved_at 𝓛 ended hs c 𝓜 𝓡 (Goes-dropped 𝓛 0 (plain (λ _. Parts R)) yes (λ κs x f. refl), tt) #self fn (code.unfolded 𝓤 H 𝓜 𝓡 wired) (λ z are.
    let d = z.0.3.0 in let es : Entries = row_entries d.value in let Post : Val → SProp 𝓤 = (walk_of 𝓛 ended hs c).post z in let Run : List Val → SProp 𝓤 = λ ws. WpFn 𝓤 H 𝓣.C 𝓣.Λ fn ws Post in
    qed 𝓛 ((‵ ftrue ⊛ ‵ (owns (types_at ended.signature.params tt) z.0.3 z.0.4)) ∷ raw (emp 𝓤) ∷ []) ∵ split ! $ drop ! $ fsplit ! $ parts_out R ! d z.0.4.0 (λ b o h ws fits.
    let w : Val = word (block_ptr b o) h in
    suffices ! (Run (w ∷ [])) (subst (λ (us : List Val). ent 𝓤 (Run (w ∷ [])) (Run us)) (sym (λ i. ws i ++ [])) (id⊢ 𝓤 (Run (w ∷ [])))) $
    enter ! 𝓣.C 𝓣.Λ fn (w ∷ []) Post $ alloc_all ! (λ l. pass_all ! refl ((and_tt _ fits.0, (tt, (fits.1, tt))), tt) $
    sets ! (of_opd ! (get_in ! (fld ! refl (stop !)) (sub ! 0 refl (whole !)))) refl (tt, tt) $ sets ! (of_opd ! (get_in ! (fld ! refl (stop !)) (sub ! 1 refl (whole !)))) refl fits $
    sets ! (of_opd ! (get ! refl)) refl (tt, tt) $ sets ! (agg ! (and_then ! (get ! refl) (and_then ! (get ! refl) (no_more !)))) refl (and_tt _ fits.0, (tt, (fits.1, tt))) $
    returns ! (look_at ! 0 refl) $ free_all ! refl $
    boxed_in ! d.alloc b o d.value $ map_in ! (block_ptr b o) d.alloc es h $ use0 𝓛 (raw (fact 𝓤 (es ≡ row_entries d.value))) (fact_i 𝓤 (es ≡ row_entries d.value) (emp 𝓤) refl) $
    nothing ! $ nothing ! $ fjoin ! $ nothing ! $ keep ! (0 ∷ 1 ∷ 3 ∷ 2 ∷ []) $ by ! (leaves 𝓛 ended hs c z w (record { at = block_ptr b o; alloc = d.alloc; entries = es }) (tt, tt) (tt, tt)))))
