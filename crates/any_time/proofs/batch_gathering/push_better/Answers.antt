use Rattle.any_time.proofs.Words.{◌≡◌, ◌++◌, ◌∷◌, [], List, rules, set, ap, ◌∙◌, get_or_read, set-set, Better}
use Rattle.any_time.proofs.batch_gathering.push_better.Goals as goal

pub returns : goal.returns
returns c =
    let xs = c.args.lists.now.items in
    let number = c.args.number in
    let read = get_or_read xs number _ c.requires c.index_mut.ensures.value [] in
    let pushed : c.from_vec.result ≡ c.index_mut.result.now ++ c.args.better ∷ [] = search rules in
    set-set xs number _ _ ∙ ap (λ (zs : List Better). set xs number zs) (pushed ∙ ap (λ (zs : List Better). zs ++ c.args.better ∷ []) read)
