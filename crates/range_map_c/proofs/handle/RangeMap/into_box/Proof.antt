-- `into_box` gives nothing at null, and else the box of the pointer.
use Rattle.range_map_c.proofs.Steps.{refl, sym, ap, subst, ◌≡◌, ◌∙◌, List, [], ◌∷◌, ◌++◌, lit<, Val, vptr, vcons, vnil, SProp, ent, emp, id⊢, full_share, ftrue, fsep, flft, ◌⊑◌, ⊑_static, WpFn, ‵, raw, ◌⊛◌, some, later, at_ret, ◌$◌, ◌∵◌, !, qed, by, keep, move, drop, split, split3, join, fsplit, fjoin, pick, suffices, use0, use1, await, rewrite, feq_i, lit, bin, stop, fld, of_opd, no_more, and_then, first, blocks, branches, skips, exec, returns, returns_within, enter, alloc_all, pass_all, free_all, look_at, get, get_in, sets, lands_last, env, agg, sub, whole, live, fact, fact_i, tables, yes, no, owns, RattleType, layout, arg, arg_laws, Ptr, null_ptr, block_ptr, tests_null, types_at, type_at, plain, nothing, only, heard, triple_of, calls_at_last, Stays, stay_dropped, walk_of, Goes-dropped, after, fm, Good, Some-of, none_of, box_out, box_in, and_tt, ghosts, dict, None, Some, proved_at, leaves}
use mir.Raw.{raw as bare}
use denote.Param.NoDrop as no_drop
use Rattle.std_alloc.proofs.BoxSteps.Form as box
use Rattle.std_alloc.specs.contracts.boxed.Box as boxed
use Rattle.std_alloc.specs.contracts.boxed.Box.from_raw as callee
use Rattle.std_alloc.proofs.boxed.Box.from_raw.Met.{met}
use Rattle.std_heap.proofs.GlobalAllocator.TheImpl.Met as allocator
use Rattle.range_map_c.specs.Handle.{row_entries}
use Rattle.range_map_c.specs.contracts.handle.Map.{the_row as R}
use Rattle.range_map_c.proofs.handle.Map.TheLaws as map_laws
use Rattle.range_map_c.proofs.Destruct++none.drop.Code as no_drop_code
use Rattle.range_map_c.proofs.Words.{Z, A, B, heap, word, map_out, either}
use Rattle.range_map_c.specs.contracts.handle.RangeMap.into_box.{ended, clauses}
use Rattle.range_map_c.specs.contracts.handle.RangeMap.into_box.Key.{name as #self}
use Rattle.range_map_c.proofs.handle.RangeMap.into_box.Statement.{statement}
use Rattle.range_map_c.proofs.handle.RangeMap.into_box.Code as code

abbrev hs : Stays ended.signature.params ended.kept
hs = (stay_dropped (plain (λ _. B)) yes, tt)

abbrev Y : RattleType
Y = arg (bare (layout R)) no R

abbrev E : box.Bx
E = record { row = Y; laws = arg_laws (bare (layout R)) no R map_laws.the_row_laws refl; al = heap }

abbrev Boxed : RattleType
Boxed = boxed.the_row R Z ghosts

pub into_box_spec : {M : Type 1} → statement M
unfolding no_drop_code.code
into_box_spec {M} 𝓤 𝓛 𝓜 𝓡 wired =
    let H = 𝓛.H in let 𝓣 = tables 𝓤 H 𝓜 𝓡 𝓡.env in let c = clauses 𝓛 𝓜.mem 𝓡.returns in let fn = code.function in
    proved_at 𝓛 ended hs c 𝓜 𝓡 (Goes-dropped 𝓛 0 (plain (λ _. B)) yes (λ κs x f. refl), tt) #self fn (code.unfolded 𝓤 H 𝓜 𝓡 wired) (λ z are.
    let d = z.0.3.0 in let a = d.alloc in let Post : Val → SProp 𝓤 = (walk_of 𝓛 ended hs c).post z in let Run : List Val → SProp 𝓤 = λ ws. WpFn 𝓤 H 𝓣.C 𝓣.Λ fn ws Post in
    let Out : RattleType = type_at ended.signature.result tt in
    let began : (p : Ptr) (h : Val) → d.at ≡ p → z.0.4.0 ≡ word d.at h ∷ [] → ent 𝓤 (Run (word p h ∷ [])) (Run (z.0.4.0 ++ [])) = λ p h e ws.
    subst (λ (us : List Val). ent 𝓤 (Run (word p h ∷ [])) (Run us)) (sym (λ i. subst (λ (q : Ptr). z.0.4.0 ≡ word q h ∷ []) e ws i ++ [])) (id⊢ 𝓤 (Run (word p h ∷ []))) in
    qed 𝓛 ((‵ ftrue ⊛ ‵ (owns (types_at ended.signature.params tt) z.0.3 z.0.4)) ∷ raw (emp 𝓤) ∷ []) ∵ split ! $ drop ! $ fsplit ! $ map_out ! d z.0.4.0 (λ h ws fits.
    either ! a d.at d.entries
    (λ is_null is_none. suffices ! (Run (word null_ptr h ∷ [])) (began null_ptr h is_null ws) $
    enter ! 𝓣.C 𝓣.Λ fn (word null_ptr h ∷ []) Post $ alloc_all ! (λ l. pass_all ! refl ((and_tt _ fits.0, (record { fits = lit< tt }, (fits.1, tt))), tt) $
    sets ! (of_opd ! (get_in ! (fld ! refl (stop !)) (sub ! 0 refl (whole !)))) refl (tt, record { fits = lit< tt }) $ sets ! (of_opd ! (get_in ! (fld ! refl (stop !)) (sub ! 1 refl (whole !)))) refl fits $
    sets ! (of_opd ! (get ! refl)) refl (tt, record { fits = lit< tt }) $ sets ! (bin ! (get ! refl) (lit ! tt) tt) refl (tt, tt) $ first ! $ branches ! (get ! refl)
    (λ _. sets ! (agg ! (and_then ! (lit ! tt) (no_more !))) refl (tt, (record { fits = lit< tt }, tt)) $ returns_within ! Post refl (look_at ! 0 refl) $ free_all ! refl $
    use0 𝓛 (‵ (Out.own_val None (live 0 vnil ∷ []))) (none_of 𝓛 Boxed) $ use0 𝓛 (raw (fact 𝓤 (d.entries ≡ []))) (fact_i 𝓤 (d.entries ≡ []) (emp 𝓤) is_none) $ nothing ! $ nothing ! $ fjoin ! $ nothing ! $
    keep ! (0 ∷ 1 ∷ 3 ∷ 2 ∷ []) $ by ! (leaves 𝓛 ended hs c z (live 0 vnil) None (tt, tt) (tt, tt)))
    (λ wrong. absurd wrong)))
    (λ b o x at_b has may. suffices ! (Run (word (block_ptr b o) h ∷ [])) (began (block_ptr b o) h at_b ws) $
    enter ! 𝓣.C 𝓣.Λ fn (word (block_ptr b o) h ∷ []) Post $ alloc_all ! (λ l. pass_all ! refl ((and_tt _ fits.0, (tt, (fits.1, tt))), tt) $ let En = env fn.locals l in
    sets ! (of_opd ! (get_in ! (fld ! refl (stop !)) (sub ! 0 refl (whole !)))) refl (tt, tt) $ sets ! (of_opd ! (get_in ! (fld ! refl (stop !)) (sub ! 1 refl (whole !)))) refl fits $
    sets ! (of_opd ! (get ! refl)) refl (tt, tt) $ sets ! (bin ! (get ! refl) (lit ! tt) (tests_null (block_ptr b o) may)) refl (tt, tt) $ first ! $ branches ! (get ! refl)
    (λ wrong. absurd wrong)
    (λ _. skips ! $ exec ! 𝓣.C 𝓣.Λ En (after 5 fn.body) (at_ret En Post) $
    -- [what the box owns; the allocator; true]
    use0 𝓛 (raw (fact 𝓤 ([] ⊑ Z.lives))) (fact_i 𝓤 ([] ⊑ Z.lives) (emp 𝓤) (⊑_static [])) $ join ! $ use0 𝓛 (raw (fact 𝓤 ([] ⊑ R.lives))) (fact_i 𝓤 ([] ⊑ R.lives) (emp 𝓤) (⊑_static [])) $ join ! $
    move ! (2 ∷ []) $ feq_i ! (List Val) (vptr b o ∷ []) (vptr b o ∷ []) refl $ fjoin ! $ move ! (2 ∷ 0 ∷ []) $ fjoin ! $
    nothing ! $ use0 𝓛 (‵ (flft [] full_share)) (𝓛.lfts.lft-nil full_share) $ join ! $ use0 𝓛 (‵ (flft [] full_share)) (𝓛.lfts.lft-nil full_share) $ join ! $ join ! $ join ! $
    let k = triple_of 𝓛 (callee.signature Y A ghosts dict E.al.drops) (callee.spec Y A ghosts dict E.al.drops 𝓛 𝓜.mem 𝓡.returns) in
    let y : k.Ghost = ((([], ([], tt)), (full_share, (full_share, tt)), tt, (a, (block_ptr b o, tt)), (h ∷ [], (vptr b o ∷ [], tt))), x) in
    use1 𝓛 (raw (k.pre y)) (id⊢ 𝓤 _) $
    first ! $ blocks ! $ sets ! (of_opd ! (get ! refl)) refl fits $ sets ! (of_opd ! (get ! refl)) refl (tt, tt) $ sets ! (of_opd ! (get ! refl)) refl (tt, tt) $
    calls_at_last ! (fm 𝓛 𝓜 𝓡) k (met 𝓤 𝓛 𝓜 𝓡 (code.calls-std_alloc::boxed::Box::from_raw 𝓡.env wired) Y A E.laws E.al.laws ghosts dict E.al.drops
    (allocator.passed 𝓡.env (code.calls-std_heap::GlobalAllocator::allocate 𝓡.env wired) (code.calls-std_heap::GlobalAllocator::deallocate 𝓡.env wired) (code.calls-std_heap::GlobalAllocator::grow 𝓡.env wired) (code.calls-std_heap::GlobalAllocator::shrink 𝓡.env wired) M 𝓤 𝓛 𝓜 𝓡)
    (no_drop.glues "range_map_c::Destruct++none::drop" 𝓡.env (code.calls-range_map_c::Destruct++none::drop 𝓡.env wired) A E.al.laws M 𝓤 𝓛 𝓜 𝓡)) y (and_then ! (get ! refl) (and_then ! (get ! refl) (no_more !))) (λ u.
    use1 𝓛 (later (some (λ (r : Boxed.Denot). ((‵ (flft [] full_share) ⊛ ‵ (flft [] full_share) ⊛ ‵ ftrue) ⊛ ‵ (Boxed.own_val r (u ∷ []))) ⊛ some (λ (ls : Unit {0} × (Unit {0} × Unit {0})). ‵ (fsep ftrue (fsep ftrue ftrue)) ⊛ (raw (fact 𝓤 (r.value ≡ x)) ⊛ raw (fact 𝓤 (r.alloc ≡ a))))))) (id⊢ 𝓤 (k.post y u)) $
    await ! tt $ pick ! (λ r. split ! $ move ! (1 ∷ []) $ pick ! (λ _. split3 ! $ drop ! $ heard ! (r.value ≡ x) (λ same. drop ! $ split ! $ drop ! $
    box_out E ! r (u ∷ []) (λ b' o' h' e' us fits'. box_in E ! r b' o' r.value e' refl $ rewrite ! 0 (λ (xs : List Val). ‵ (Boxed.own_val r xs)) (sym us) refl $
    let good : Good (layout Boxed) u = subst (Good (layout Boxed)) (sym (ap only us)) (box.box_typed E h' b' o' fits') in
    lands_last ! refl good $ exec ! 𝓣.C 𝓣.Λ En (after 6 fn.body) (at_ret En Post) $ let told : Val = live 1 (vcons u vnil) in
    sets ! (of_opd ! (get ! refl)) refl good $ sets ! (agg ! (and_then ! (lit ! tt) (and_then ! (get ! refl) (no_more !)))) refl (and_tt _ good.0, (record { fits = lit< tt }, (good.1, tt))) $ returns ! (look_at ! 0 refl) $ free_all ! refl $
    use1 𝓛 (‵ (Out.own_val (Some r) (told ∷ []))) (Some-of 𝓛 Boxed r u) $ use0 𝓛 (raw (fact 𝓤 (d.entries ≡ row_entries r.value))) (fact_i 𝓤 (d.entries ≡ row_entries r.value) (emp 𝓤) (has ∙ ap row_entries (sym same))) $
    nothing ! $ nothing ! $ fjoin ! $ nothing ! $ keep ! (0 ∷ 1 ∷ 3 ∷ 2 ∷ []) $ by ! (leaves 𝓛 ended hs c z told (Some r) (tt, tt) (tt, tt))))))))))))
