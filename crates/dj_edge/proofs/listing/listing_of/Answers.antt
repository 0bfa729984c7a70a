use Rattle.std.proofs.lemmas.Grind.{common_steps}
use Rattle.std.proofs.Common.{rules, ◌≡◌, ◌++◌, ◌∙◌, codes, map, string_bytes}
use Rattle.dj_edge.proofs.Once.{kept_below, once_as}
use Rattle.dj_edge.proofs.listing.listing_of.Goals as goal

pub returns : goal.returns
returns c =
    let start : string_bytes c.in_ok-start.start ≡ c.args.folder.now ++ codes "/" = search (rules, common_steps) in
    once_as _ _ c.args.most (λ paths. map string_bytes paths.items) c.each_once.result
    (kept_below c.args.folder.now c.as_bytes.result.now c.args.found.items c.keep_below.new.paths.items (c.as_bytes.ensures.value ∙ start) c.keep_below.ensures) c.each_once.ensures
