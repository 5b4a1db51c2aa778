use Rattle.blaze_entries.proofs.Words.{rules}
use Rattle.blaze_entries.proofs.Asked.{callable_seen, retains_seen}
use Rattle.blaze_entries.proofs.tree.retain.retain_by.Goals as goal

pub retain_pairs-requires : goal.retain_pairs-requires
retain_pairs-requires g c =
    callable_seen _ g.E.Keeps.step (λ test. test.0.now) (λ f k v b w h t. search rules) _ g.E.Keeps.accepts (λ f k v a. search rules) _ _ c.requires

pub returns : goal.returns
returns g c = retains_seen _ g.E.Keeps.step (λ test. test.0.now) (λ f k v b w h t. search rules) _ _ _ c.retain_pairs.ensures
