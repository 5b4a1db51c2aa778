use Rattle.blaze_streams.proofs.Words.{◌≡◌, ◌∷◌, ◌++◌, [], Some, ap, sym, ◌∙◌, map-append, entry, shown_entry, shown_list}
use Rattle.blaze_streams.proofs.merge.push.push_value.Goals as goal

pub returns-in_ok-push-clause-ok : goal.returns-in_ok-push-clause-ok
returns-in_ok-push-clause-ok g c =
    let rank = g.T.Integer.rank in
    let value = c.in_ok-value.value in
    let items = c.lengthen_entry.new.out.items in
    let added = (c.args.start, c.args.end, value) ∷ [] in
    let list : shown_list rank c.push.new.self.items ≡ shown_list rank c.args.out.now.items ++ entry (rank c.args.start) (rank c.args.end) value ∷ [] =
    ap (shown_list rank) c.in_ok-push.ensures.items ∙ map-append (shown_entry rank (λ v. v)) items added ∙ ap (λ l. shown_list rank l ++ shown_list rank added) c.if-not-lengthen_entry.ensures.0 in
    record { alike = Some value; same = c.in_ok-value.ensures; put = list ∙ sym (c.if-not-lengthen_entry.ensures.1 value c.in_ok-value.ensures) }

pub returns-else-not-lengthen_entry-clause-ok : goal.returns-else-not-lengthen_entry-clause-ok
returns-else-not-lengthen_entry-clause-ok g c =
    let value = g.VC.ValueCarrier.shown c.args.carrier in
    record { alike = Some value; same = g.met.VC.Value.Eq.laws.refl value; put = c.if-not-lengthen_entry.ensures }
