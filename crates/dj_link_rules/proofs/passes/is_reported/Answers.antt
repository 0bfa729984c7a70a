use Rattle.dj_link_rules.proofs.passes.is_reported.Goals as goal

pub returns-then-unreported : goal.returns-then-unreported
returns-then-unreported c = ((λ t. absurd cc), (λ violates. absurd (c.requires.unreported c.if-unreported.true violates.0 violates.1)))
