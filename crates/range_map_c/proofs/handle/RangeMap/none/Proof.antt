-- `none` makes the struct of the null pointer, which owns nothing.
use Rattle.range_map_c.proofs.Steps.{refl, sym, subst, ◌≡◌, List, [], ◌∷◌, ◌++◌, lit<, Val, SProp, ent, emp, id⊢, ftrue, WpFn, ‵, raw, ◌⊛◌, ◌$◌, ◌∵◌, !, qed, by, keep, drop, split, join, fsplit, fjoin, suffices, use0, feq_i, lit, no_more, and_then, returns, enter, alloc_all, pass_all, free_all, look_at, get, sets, agg, fact, fact_i, tables, yes, owns, null_ptr, types_at, plain, nothing, Stays, stay_dropped, walk_of, Goes-dropped, handle_tells, and_tt, proved_at, leaves}
use Rattle.range_map_c.specs.Handle.{Entries}
use Rattle.range_map_c.proofs.Words.{Z, al, word, map_in}
use Rattle.range_map_c.specs.contracts.handle.RangeMap.none.{ended, clauses}
use Rattle.range_map_c.specs.contracts.handle.RangeMap.none.Key.{name as #self}
use Rattle.range_map_c.proofs.handle.RangeMap.none.Statement.{statement}
use Rattle.range_map_c.proofs.handle.RangeMap.none.Code as code

abbrev hs : Stays ended.signature.params ended.kept
hs = (stay_dropped (plain (λ _. Z)) yes, tt)

pub none_spec : {M : Type 1} → statement M
none_spec 𝓤 𝓛 𝓜 𝓡 wired =
    let H = 𝓛.H in let 𝓣 = tables 𝓤 H 𝓜 𝓡 𝓡.env in let c = clauses 𝓛 𝓜.mem 𝓡.returns in let fn = code.function in
    proved_at 𝓛 ended hs c 𝓜 𝓡 (Goes-dropped 𝓛 0 (plain (λ _. Z)) yes (λ κs x f. refl), tt) #self fn (code.unfolded 𝓤 H 𝓜 𝓡 wired) (λ z are.
    let a = z.0.3.0 in let none : Entries = [] in let Post : Val → SProp 𝓤 = (walk_of 𝓛 ended hs c).post z in let Run : List Val → SProp 𝓤 = λ ws. WpFn 𝓤 H 𝓣.C 𝓣.Λ fn ws Post in
    qed 𝓛 ((‵ ftrue ⊛ ‵ (owns (types_at ended.signature.params tt) z.0.3 z.0.4)) ∷ raw (emp 𝓤) ∷ []) ∵ split ! $ drop ! $ fsplit ! $ handle_tells al ! a z.0.4.0 (λ h e fits.
    suffices ! (Run (h ∷ [])) (subst (λ (us : List Val). ent 𝓤 (Run (h ∷ [])) (Run us)) (sym (λ i. e i ++ [])) (id⊢ 𝓤 (Run (h ∷ [])))) $
    enter ! 𝓣.C 𝓣.Λ fn (h ∷ []) Post $ alloc_all ! (λ l. pass_all ! refl (fits, tt) $
    sets ! (agg ! (and_then ! (lit ! tt) (and_then ! (get ! refl) (no_more !)))) refl (and_tt _ fits.0, (record { fits = lit< tt }, (fits.1, tt))) $
    returns ! (look_at ! 0 refl) $ free_all ! refl $
    feq_i ! Entries none none refl $ map_in ! null_ptr a none h $ use0 𝓛 (raw (fact 𝓤 (null_ptr ≡ null_ptr))) (fact_i 𝓤 (null_ptr ≡ null_ptr) (emp 𝓤) refl) $
    use0 𝓛 (raw (fact 𝓤 (none ≡ []))) (fact_i 𝓤 (none ≡ []) (emp 𝓤) refl) $ join ! $
    nothing ! $ nothing ! $ fjoin ! $ nothing ! $ keep ! (0 ∷ 1 ∷ 3 ∷ 2 ∷ []) $ by ! (leaves 𝓛 ended hs c z (word null_ptr h) (record { at = null_ptr; alloc = a; entries = none }) (tt, tt) (tt, tt)))))
