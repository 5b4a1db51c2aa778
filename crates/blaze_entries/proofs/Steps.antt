-- One call of `next` or `next_back` of an iterator over full nodes.
use Rattle.blaze_entries.proofs.Words.{◌≡◌, ◌+◌, ◌<◌, length, ℤ, pos, ◌+ℤ◌, List, [], ◌∷◌, ◌++◌, Option, Some, None, refl, ◌∙◌, sym, subst, ap, arith, length-append, map, IsSome, IfSome, IfNone, MatchOption, ◌↔◌, MakesProgress, item_count, TakesFirst, TakesLast, option_map, ints, Entry, full_node, full, shown_node, shown_nodes, entries_of, AreFull, AreHeld, StartsAscend, EndValue}
use Rattle.blaze_entries.proofs.Ascending.{start_front, start_lower}
use Rattle.blaze_entries.proofs.Held.{full-held}
use Rattle.blaze_entries.proofs.Borrowed.{no_value}

-- the calls on a list, as calls on what the list represents
takes_first_shown : {A X Y : Type 0} (f : X → Y) (shows : A → X) (s : List X) (r : Option A) (t : List X) → TakesFirst shows s r t → TakesFirst (λ x. f (shows x)) (map f s) r (map f t)
takes_first_shown f shows s None t h = (ap (map f) h.0, ap (map f) h.1)
takes_first_shown f shows s (Some x) t h = ap (map f) h

map-append : {X Y : Type 0} (f : X → Y) (xs ys : List X) → map f (xs ++ ys) ≡ map f xs ++ map f ys
map-append f [] ys = refl
map-append f (x ∷ xs) ys = ap (λ l. f x ∷ l) (map-append f xs ys)

takes_last_shown : {A X Y : Type 0} (f : X → Y) (shows : A → X) (s : List X) (r : Option A) (t : List X) → TakesLast shows s r t → TakesLast (λ x. f (shows x)) (map f s) r (map f t)
takes_last_shown f shows s None t h = (ap (map f) h.0, ap (map f) h.1)
takes_last_shown f shows s (Some x) t h = ap (map f) h ∙ map-append f t (shows x ∷ [])

module _ {A V : Type 0} (shows : A → Entry (Option V)) where
  -- A node was yielded from one end of full nodes. `join` puts its entry back among the others.
  pub record Taken (join : List (Entry V) → Entry V → List (Entry V)) (es : List (Entry V)) (r : Option A) (qs : List (Entry (Option V))) : Type 0 where
    pub entry : Option (Entry V)
    pub is : option_map shows r ≡ option_map full_node entry
    pub others : AreFull qs
    pub yields : MatchOption entry ((es ≡ []) × (full qs ≡ [])) (λ e. es ≡ join (full qs) e)

  first_taken : (ps : List (Entry (Option V))) (r : Option A) (qs : List (Entry (Option V))) → AreFull ps → TakesFirst shows ps r qs → Taken (λ fs e. e ∷ fs) (full ps) r qs
  first_taken ps r qs h t = by_list (full ps) ps r qs h.held t
    where
      by_list : (es : List (Entry V)) (ps : List (Entry (Option V))) (r : Option A) (qs : List (Entry (Option V))) → ps ≡ map full_node es → TakesFirst shows ps r qs → Taken (λ fs e. e ∷ fs) es r qs
      by_list [] ps None qs q t = record { entry = None; is = refl; others = subst AreFull (sym t.1) (record { held = refl }); yields = (refl, ap full t.1) }
      by_list (e ∷ es) ps None qs q t = let no : [] ≡ full_node e ∷ map full_node es = sym t.0 ∙ q in cc
      by_list [] ps (Some x) qs q t = let no : shows x ∷ qs ≡ [] = sym t ∙ q in cc
      by_list (e ∷ es) ps (Some x) qs q t =
          let both : shows x ∷ qs ≡ full_node e ∷ map full_node es = sym t ∙ q in
          let rest : qs ≡ map full_node es = cc in
          let entries : full qs ≡ es = ap full rest ∙ full-held es in
          record {
            entry = Some e;
            is = cc;
            others = record { held = rest ∙ ap (map full_node) (sym entries) };
            yields = ap (λ l. e ∷ l) (sym entries);
          }

  record SplitLast (es : List (Entry V)) (x : Entry (Option V)) (qs : List (Entry (Option V))) : Type 0 where
    front : List (Entry V)
    last : Entry V
    whole : es ≡ front ++ last ∷ []
    is : x ≡ full_node last
    others : qs ≡ map full_node front

  split_last : (es : List (Entry V)) (x : Entry (Option V)) (qs : List (Entry (Option V))) → qs ++ x ∷ [] ≡ map full_node es → SplitLast es x qs
  split_last [] x [] q = cc
  split_last [] x (p ∷ qs) q = cc
  split_last (e ∷ []) x [] q = record { front = []; last = e; whole = refl; is = cc; others = refl }
  split_last (e ∷ f ∷ es) x [] q = cc
  split_last (e ∷ es) x (p ∷ qs) q =
      let rest : qs ++ x ∷ [] ≡ map full_node es = cc in
      let first : p ≡ full_node e = cc in
      let s = split_last es x qs rest in
      record { front = e ∷ s.front; last = s.last; whole = ap (λ l. e ∷ l) s.whole; is = s.is; others = ap (λ y. y ∷ qs) first ∙ ap (λ l. full_node e ∷ l) s.others }

  last_taken : (ps : List (Entry (Option V))) (r : Option A) (qs : List (Entry (Option V))) → AreFull ps → TakesLast shows ps r qs → Taken (λ fs e. fs ++ e ∷ []) (full ps) r qs
  last_taken ps None qs h t = record { entry = None; is = refl; others = subst AreFull (sym t.1) (record { held = refl }); yields = (ap full t.0, ap full t.1) }
  last_taken ps (Some x) qs h t =
      let s = split_last (full ps) (shows x) qs (sym t ∙ h.held) in
      let entries : full qs ≡ s.front = ap full s.others ∙ full-held s.front in
      record {
        entry = Some s.last;
        is = ap Some s.is;
        others = record { held = s.others ∙ ap (map full_node) (sym entries) };
        yields = s.whole ∙ ap (λ l. l ++ s.last ∷ []) (sym entries);
      }

-- a node was yielded from one end of full nodes
module _ {T V A : Type 0} (rank : T → ℤ) (shows : A → T × EndValue T (Option V)) (nodes : List (T × EndValue T (Option V))) (r : Option A) (rest : List (T × EndValue T (Option V))) (h : AreFull (shown_nodes rank nodes)) where
  -- the node that `next` yields
  pub first_node_taken : TakesFirst shows nodes r rest → Taken (λ a. shown_node rank (shows a)) (λ fs e. e ∷ fs) (entries_of rank nodes) r (shown_nodes rank rest)
  first_node_taken t = first_taken (λ a. shown_node rank (shows a)) (shown_nodes rank nodes) r (shown_nodes rank rest) h (takes_first_shown (shown_node rank) shows nodes r rest t)

  -- the node that `next_back` yields
  pub last_node_taken : TakesLast shows nodes r rest → Taken (λ a. shown_node rank (shows a)) (λ fs e. fs ++ e ∷ []) (entries_of rank nodes) r (shown_nodes rank rest)
  last_node_taken t = last_taken (λ a. shown_node rank (shows a)) (shown_nodes rank nodes) r (shown_nodes rank rest) h (takes_last_shown (shown_node rank) shows nodes r rest t)

-- a fact about an option holds for the option that it is the view of
by_view : {B X : Type 0} (view : B → X) (r : Option B) (o : Option X) (P : Type 0) (Q : X → Type 0) → option_map view r ≡ o → MatchOption o P Q → MatchOption r P (λ x. Q (view x))
by_view view None o P Q q h = subst (λ (o : Option _). MatchOption o P Q) (sym q) h
by_view view (Some x) o P Q q h = subst (λ (o : Option _). MatchOption o P Q) (sym q) h

module _ {A V : Type 0} {shows : A → Entry (Option V)} {join : List (Entry V) → Entry V → List (Entry V)} {es : List (Entry V)} {r : Option A} {qs : List (Entry (Option V))} (t : Taken shows join es r qs) where
  -- the yielded node is full
  pub taken_is_full : IfSome r (λ a. IsSome (shows a).value)
  taken_is_full = by_cases r t.entry t.is
    where
      by_cases : (r : Option A) (o : Option (Entry V)) → option_map shows r ≡ option_map full_node o → IfSome r (λ a. IsSome (shows a).value)
      by_cases None o q = tt
      by_cases (Some a) None q = cc
      by_cases (Some a) (Some e) q = let s : shows a ≡ full_node e = cc in subst (λ (x : Entry (Option V)). IsSome x.value) (sym s) refl

  -- a call that returns the entry of the yielded node yields the entry
  pub answers_taken : {B : Type 0} (view : B → Entry V) (answer : Option B) {fs : List (Entry V)} → ((o : Option (Entry V)) → option_map shows r ≡ option_map full_node o → option_map view answer ≡ o) → es ≡ fs
      → MatchOption answer ((fs ≡ []) × (full qs ≡ [])) (λ x. fs ≡ join (full qs) (view x))
  answers_taken view answer {fs} f q =
      subst (λ l. MatchOption answer ((l ≡ []) × (full qs ≡ [])) (λ x. l ≡ join (full qs) (view x))) q (by_view view answer t.entry _ _ (f t.entry t.is) t.yields)

-- the remaining list is shorter
pub goes_first : {B X : Type 0} (can : List X → Type 0) (all : (s : List X) → can s) (view : B → X) (r : Option B) (es fs : List X) → MatchOption r ((es ≡ []) × (fs ≡ [])) (λ x. es ≡ view x ∷ fs) → MakesProgress can (item_count (λ s. s)) es r fs
goes_first can all view None es fs h = record { on = λ _. tt; keeps = tt; rests = λ _. tt }
goes_first can all view (Some x) es fs h =
    let n : length es ≡ length fs + 1 = ap length h ∙ omega arith in
    record { on = λ _. (all fs, tt, omega (arith, n)); keeps = all fs; rests = λ _. tt }

pub goes_last : {B X : Type 0} (can : List X → Type 0) (all : (s : List X) → can s) (view : B → X) (r : Option B) (es fs : List X) → MatchOption r ((es ≡ []) × (fs ≡ [])) (λ x. es ≡ fs ++ view x ∷ []) → MakesProgress can (item_count (λ s. s)) es r fs
goes_last can all view None es fs h = record { on = λ _. tt; keeps = tt; rests = λ _. tt }
goes_last can all view (Some x) es fs h =
    let n : length es ≡ length fs + 1 = ap length h ∙ omega (arith, length-append fs (view x ∷ [])) in
    record { on = λ _. (all fs, tt, omega (arith, n)); keeps = all fs; rests = λ _. tt }

-- entries whose starts ascend still ascend after `next`
pub rest_is_held : {A V : Type 0} {shows : A → Entry (Option V)} {es : List (Entry V)} {r : Option A} {qs : List (Entry (Option V))} (t : Taken shows (λ fs e. e ∷ fs) es r qs) (low high : ℤ)
    → StartsAscend low high es → AreHeld low high qs
rest_is_held {V = V} {es = es} {qs = qs} t low high h = record { ascend = by_entry t.entry t.yields; full = t.others }
  where
    by_entry : (o : Option (Entry V)) → MatchOption o ((es ≡ []) × (full qs ≡ [])) (λ e. es ≡ e ∷ full qs) → StartsAscend low high (full qs)
    by_entry None y = subst (StartsAscend low high) (sym y.1) tt
    by_entry (Some e) y =
        let all = subst (StartsAscend low high) y h in
        start_lower (e.lo +ℤ pos 1) low high (full qs) (omega (arith, ints, all.0)) all.2

-- entries whose starts ascend still ascend after `next_back`
pub front_is_held : {A V : Type 0} {shows : A → Entry (Option V)} {es : List (Entry V)} {r : Option A} {qs : List (Entry (Option V))} (t : Taken shows (λ fs e. fs ++ e ∷ []) es r qs) (low high : ℤ)
    → StartsAscend low high es → AreHeld low high qs
front_is_held {V = V} {es = es} {qs = qs} t low high h = record { ascend = by_entry t.entry t.yields; full = t.others }
  where
    by_entry : (o : Option (Entry V)) → MatchOption o ((es ≡ []) × (full qs ≡ [])) (λ e. es ≡ full qs ++ e ∷ []) → StartsAscend low high (full qs)
    by_entry None y = subst (StartsAscend low high) (sym y.1) tt
    by_entry (Some e) y = start_front low high (full qs) (e ∷ []) (subst (StartsAscend low high) y h)

-- a call that removes the first item of a list yields that item
pub pops_first : {X : Type 0} (nodes : List X) (r : Option X) (rest : List X) → IsSome r ↔ (0 < length nodes) → IfSome r (λ p. nodes ≡ p ∷ rest) → IfNone r (rest ≡ nodes) → TakesFirst (λ p. p) nodes r rest
pops_first [] None rest v s n = (refl, n)
pops_first {X} (x ∷ nodes) None rest v s n = absurd (no_value X (v.1 (omega arith)))
pops_first nodes (Some p) rest v s n = s

-- a call that removes the last item of a list yields that item
pub pops_last : {X : Type 0} (nodes : List X) (r : Option X) (rest : List X) → IsSome r ↔ (0 < length nodes) → IfSome r (λ p. nodes ≡ rest ++ p ∷ []) → IfNone r (rest ≡ nodes) → TakesLast (λ p. p) nodes r rest
pops_last [] None rest v s n = (refl, n)
pops_last {X} (x ∷ nodes) None rest v s n = absurd (no_value X (v.1 (omega arith)))
pops_last nodes (Some p) rest v s n = s
