-- `of` takes the box apart, and the parts own what it owned.
use Rattle.range_map_c.proofs.Steps.{refl, sym, ap, subst, ◌≡◌, ◌∙◌, List, [], ◌∷◌, ◌++◌, inst_fn, Args, Fn, a_type, dnil, dcons, Val, vstruct, of_list, full_share, ftrue, fsep, flft, SProp, ent, emp, never, id⊢, fst∗, WpFn, ◌⊑◌, ⊑_static, fact, fact_i, tables, sem, ‵, raw, ◌⊛◌, some, later, ◌$◌, ◌∵◌, !, qed, by, keep, move, drop, split, split3, join, fsplit, fjoin, fpick, pick, suffices, use0, use1, await, rewrite, feq_l, stop, fld, of_opd, no_more, and_then, returns, enter, alloc_all, pass_all, free_all, look_at, get, get_in, sets, lands_as, agg, sub, whole, no, owns, RattleType, RawPtr, param, layout, bounded, Ptr, block_ptr, null_ptr, ptr_val, in_a_block, types_at, plain, nothing, only, heard, Tuple, triple_of, calls_at, Stays, stay_dropped, walk_of, Goes-blank, handle_tells, fm, proved_at, leaves, box_owns, box_out, box_in, ghosts, dict, Global}
use mir.Raw.{raw as bare}
use denote.Param.NoDrop as no_drop
use Rattle.std_alloc.proofs.BoxSteps.Form as box
use Rattle.std_alloc.specs.contracts.boxed.Box as boxed
use Rattle.std_alloc.specs.contracts.boxed.Box.into_raw_with_allocator as callee
use Rattle.std_alloc.proofs.boxed.Box.into_raw_with_allocator.Met.{met}
use Rattle.std_heap.proofs.GlobalAllocator.TheImpl.Met as allocator
use Rattle.range_map_c.proofs.Destruct++none.drop.Code as no_drop_code
use Rattle.range_map_c.proofs.Words.{Z, A, heap, word, parts_in}
use Rattle.range_map_c.specs.contracts.handle.Parts.of.{ended, clauses}
use Rattle.range_map_c.specs.contracts.handle.Parts.of.Key.{name as #self}
use Rattle.range_map_c.proofs.handle.Parts.of.Statement.{statement}
use Rattle.range_map_c.proofs.handle.Parts.of.Code as code

pub of_spec : {M : Type 1} → statement M
unfolding no_drop_code.code
of_spec {M} 𝓤 𝓛 𝓜 𝓡 wired T L dx glue =
    let H = 𝓛.H in let 𝓣 = tables 𝓤 H 𝓜 𝓡 𝓡.env in let c = clauses T dx 𝓛 𝓜.mem 𝓡.returns in let R : RattleType = param 0 T in let E : box.Bx = record { row = T; laws = L; al = heap } in
    let inst : Args = bounded (a_type ∷ []) (T, tt) (dcons dx dnil) in let fn : Fn = inst_fn inst code.function in let From : RattleType = boxed.the_row R Z ghosts in
    let hs : Stays (ended T dx).signature.params (ended T dx).kept = (stay_dropped (plain (λ _. From)) no, tt) in
    proved_at 𝓛 (ended T dx) hs c 𝓜 𝓡 (Goes-blank 𝓛 1 (plain (λ _. From)) no (λ κs x f. tt), tt) (#self inst) fn (code.unfolded 𝓤 H 𝓜 𝓡 wired (T, tt) dx) (λ z are.
    let κ = z.0.0.0 in let q = z.0.1.0 in let v = z.0.3.0 in let a = v.alloc in let Post : Val → SProp 𝓤 = (walk_of 𝓛 (ended T dx) hs c).post z in let Run : List Val → SProp 𝓤 = λ ws. WpFn 𝓤 H 𝓣.C 𝓣.Λ fn ws Post in
    qed 𝓛 (((‵ (flft κ q) ⊛ ‵ ftrue) ⊛ ‵ (owns (types_at (ended T dx).signature.params z.0.0) z.0.3 z.0.4)) ∷ (raw (fact 𝓤 (κ ⊑ T.lives)) ⊛ raw (emp 𝓤)) ∷ []) ∵ split ! $ split ! $ move ! (2 ∷ []) $ fsplit ! $
    box_out E ! v z.0.4.0 (λ b o h e ws fits. box_in E ! v b o v.value e refl $
    -- [the box; true; the token of κ; true; that the type lives on]
    let w : Val = word (block_ptr b o) h in let good = box.box_typed E h b o fits in
    let k = triple_of 𝓛 (callee.signature T A ghosts dict heap.drops dx) (callee.spec T A ghosts dict heap.drops dx 𝓛 𝓜.mem 𝓡.returns) in
    let y : k.Ghost = (((κ, ([], tt)), (q, (full_share, tt)), tt, (v, tt), (w ∷ [], tt)), tt) in
    fjoin ! $ move ! (2 ∷ []) $ use0 𝓛 (‵ (flft [] full_share)) (𝓛.lfts.lft-nil full_share) $ join ! $ move ! (2 ∷ 0 ∷ []) $ join ! $ join ! $
    move ! (1 ∷ []) $ split ! $ move ! (1 ∷ []) $ use0 𝓛 (raw (fact 𝓤 ([] ⊑ A.lives))) (fact_i 𝓤 ([] ⊑ A.lives) (emp 𝓤) (⊑_static [])) $ join ! $ move ! (1 ∷ 0 ∷ []) $ join ! $ move ! (1 ∷ 0 ∷ []) $ join ! $
    use1 𝓛 (raw (k.pre y)) (id⊢ 𝓤 _) $
    suffices ! (Run (w ∷ [])) (subst (λ (us : List Val). ent 𝓤 (Run (w ∷ [])) (Run us)) (sym (λ i. ws i ++ [])) (id⊢ 𝓤 (Run (w ∷ [])))) $
    enter ! 𝓣.C 𝓣.Λ fn (w ∷ []) Post $ alloc_all ! (λ l. pass_all ! refl (good, tt) $ sets ! (of_opd ! (get ! refl)) refl good $
    calls_at ! (fm 𝓛 𝓜 𝓡) k (met 𝓤 𝓛 𝓜 𝓡 (code.calls-std_alloc::boxed::Box::into_raw_with_allocator 𝓡.env wired) T A L heap.laws ghosts dict heap.drops dx
    (allocator.passed 𝓡.env (code.calls-std_heap::GlobalAllocator::allocate 𝓡.env wired) (code.calls-std_heap::GlobalAllocator::deallocate 𝓡.env wired) (code.calls-std_heap::GlobalAllocator::grow 𝓡.env wired) (code.calls-std_heap::GlobalAllocator::shrink 𝓡.env wired) M 𝓤 𝓛 𝓜 𝓡)
    (no_drop.glues "range_map_c::Destruct++none::drop" 𝓡.env (code.calls-range_map_c::Destruct++none::drop 𝓡.env wired) A heap.laws M 𝓤 𝓛 𝓜 𝓡) glue) y (and_then ! (get ! refl) (no_more !)) (λ u.
    use1 𝓛 (later (some (λ (r : Ptr × Global). ((‵ (flft κ q) ⊛ ‵ (flft [] full_share) ⊛ ‵ ftrue) ⊛ ‵ ((Tuple (RawPtr ∷ A ∷ [])).own_val r (u ∷ []))) ⊛ some (λ (_ : (Unit {0} × (Unit {0} × Unit {0})) × Unit {0}). ‵ (fsep (fsep ftrue (fsep ftrue ftrue)) ftrue) ⊛ (raw (fact 𝓤 (r.1 ≡ a)) ⊛ ‵ (box_owns (ghosts.dealloc_token a) R r.0 v.value)))))) (id⊢ 𝓤 _) $
    await ! tt $ pick ! (λ r. split ! $ move ! (1 ∷ []) $ pick ! (λ _. split3 ! $ drop ! $ heard ! (r.1 ≡ a) (λ ea.
    in_a_block ! r.0 (λ p. box_owns (ghosts.dealloc_token a) R p v.value) (fst∗ 𝓤 (never 𝓤) (sem 𝓛 (ghosts.dealloc_token a (bare (layout T)) null_ptr))) (λ b' o' e'.
    move ! (1 ∷ []) $ split ! $ split3 ! $ move ! (1 ∷ []) $ drop ! $ move ! (2 ∷ []) $
    -- [the pair; the token of κ; true; what the box owned]
    fpick ! (λ vss. fsplit ! $ feq_l ! (λ eu. fsplit ! $ feq_l ! (λ ep. fsplit ! $ rewrite ! 0 (λ (s : Global). ‵ (A.own_val s vss.1.0)) ea refl $ handle_tells heap ! a vss.1.0 (λ h' eh fits'.
    let out : Val = word (block_ptr b' o') h' in let made = box.box_typed E h' b' o' fits' in
    lands_as ! (ap only (eu ∙ (λ j. vstruct (of_list ((ep ∙ ap (λ (p : Ptr). ptr_val p ∷ []) e') j ++ (eh j ++ []))) ∷ []))) refl made $
    sets ! (of_opd ! (get_in ! (fld ! refl (stop !)) (sub ! 0 refl (whole !)))) refl (tt, tt) $ sets ! (of_opd ! (get_in ! (fld ! refl (stop !)) (sub ! 1 refl (whole !)))) refl fits' $
    sets ! (agg ! (and_then ! (get ! refl) (and_then ! (get ! refl) (no_more !)))) refl made $ returns ! (look_at ! 0 refl) $ free_all ! refl $
    -- [the allocator; true; the token of κ; true; what the box owned]
    move ! (4 ∷ 0 ∷ []) $ parts_in R ! b' o' a v.value h' $ use0 𝓛 (raw (fact 𝓤 (v.value ≡ v.value))) (fact_i 𝓤 (v.value ≡ v.value) (emp 𝓤) refl) $ nothing ! $ nothing ! $ fjoin ! $
    move ! (4 ∷ 5 ∷ []) $ join ! $ keep ! (0 ∷ 1 ∷ 3 ∷ 2 ∷ []) $ by ! (leaves 𝓛 (ended T dx) hs c z out (record { at = block_ptr b' o'; alloc = a; value = v.value }) (tt, tt) (tt, tt))))))))))))))
