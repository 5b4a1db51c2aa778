use Rattle.range_map_cli.proofs.Words.{◌≡◌, ◌+◌, ◌++◌, length, take, sym, ap, ◌∙◌, arith, length-take, take-put_mid}
use Rattle.std.proofs.lemmas.List.{append-nil}
use Rattle.range_map_cli.proofs.Sessions.Kept.{keep_room}
use Rattle.range_map_cli.proofs.line.Line.keep.Goals as goal

pub returns : goal.returns
returns c =
    let bytes = c.args.bytes.now in
    let count = c.self.inside.count in
    let kept = c.min-count.result in
    let line = take count c.self.inside.bytes in
    let long : length line ≡ count = omega (arith, length-take count c.self.inside.bytes, c.self.invariant) in
    let part : c.copy_from_slice.new.self ≡ take kept bytes = c.copy_from_slice.ensures.after in
    let few : length c.copy_from_slice.new.self ≡ kept = omega (arith, ap length part, length-take kept bytes) in
    take-put_mid count _ c.self.inside.bytes c.copy_from_slice.new.self (count + kept) (omega (arith, few)) (omega (arith, c.self.invariant)) ∙ ap (λ l. line ++ l) part ∙ keep_room line bytes count kept long c.self.invariant c.min-count.ensures ∙ ap (λ l. take 81 (l ++ bytes)) c.self.view_is

-- nothing is kept: there are no bytes, or there is no room
pub returns-then-count-eq0 : goal.returns-then-count-eq0
returns-then-count-eq0 c =
    let bytes = c.args.bytes.now in
    let count = c.self.inside.count in
    let line = take count c.self.inside.bytes in
    let long : length line ≡ count = omega (arith, length-take count c.self.inside.bytes, c.self.invariant) in
    sym c.self.view_is ∙ sym (append-nil line) ∙ ap (λ n. line ++ take n bytes) (sym c.if-count-eq0.true) ∙ keep_room line bytes count c.min-count.result long c.self.invariant c.min-count.ensures ∙ ap (λ l. take 81 (l ++ bytes)) c.self.view_is
