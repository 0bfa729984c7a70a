-- The order of violations is total, and different violations are never equal in it.
use Rattle.std.specs.Cmp.{IsTotalOrder, then_total, on_total, nat_cmp_total}
use Rattle.std.specs.Cmp.Lexicographic.{on_texts, options_total}
use Rattle.dj_report.specs.declared.report.Violation.{Violation}
use Rattle.dj_report.specs.trusted.Order.{violation_cmp}

pub violation_cmp_total : IsTotalOrder violation_cmp
violation_cmp_total =
    then_total (on_texts (λ (v : Violation). v.path))
    (then_total (on_texts (λ (v : Violation). v.member))
    (then_total (on_total (λ (v : Violation). v.number) (options_total nat_cmp_total)) (on_total (λ (v : Violation). v.rule) nat_cmp_total)))
