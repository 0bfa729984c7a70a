use Rattle.std.proofs.Common.{◌∷◌, ◌++◌, [], ℕ, List, length, ap, ◌∙◌, arith}
use Rattle.std.specs.Global.{Vec}
use Rattle.dj_edge.specs.InMemory.{String}
use Rattle.dj_rules_tests.proofs.Alone.{alone_few, alone_within, alone_differs}
use Rattle.dj_rules_tests.proofs.sandbox.set_of.Goals as goal

pub new-requires-clause-few : goal.new-requires-clause-few
new-requires-clause-few c =
    let file : String × Vec ℕ = (c.in_ok-path.path, c.in_ok-bytes.bytes) in
    alone_few c.push.new.self.items file (c.in_ok-push.ensures.items ∙ ap (λ (files : List (String × Vec ℕ)). files ++ file ∷ []) c.new-files.ensures.items)

pub new-requires-clause-within : goal.new-requires-clause-within
new-requires-clause-within c =
    let file : String × Vec ℕ = (c.in_ok-path.path, c.in_ok-bytes.bytes) in
    alone_within c.push.new.self.items file (c.in_ok-push.ensures.items ∙ ap (λ (files : List (String × Vec ℕ)). files ++ file ∷ []) c.new-files.ensures.items)
    (omega (arith, ap length c.in_ok-bytes.ensures.items, c.requires))

pub new-requires-clause-differ : goal.new-requires-clause-differ
new-requires-clause-differ c =
    let file : String × Vec ℕ = (c.in_ok-path.path, c.in_ok-bytes.bytes) in
    alone_differs c.push.new.self.items file (c.in_ok-push.ensures.items ∙ ap (λ (files : List (String × Vec ℕ)). files ++ file ∷ []) c.new-files.ensures.items)
