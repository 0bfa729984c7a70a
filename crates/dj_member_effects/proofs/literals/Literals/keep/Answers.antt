use Rattle.std.proofs.Common.{◌≡◌, ◌<◌, ℕ, List, None, set, get_or, sym, subst}
use Rattle.dj_member_effects.specs.Literals.{LiteralTable, object_of, object_reported}
use Rattle.dj_member_effects.proofs.LiteralFacts.{keeps_reported}
use Rattle.dj_member_effects.proofs.literals.Literals.keep.Goals as goal

pub invariant_of-self-inside-2 : goal.invariant_of-self-inside-2
invariant_of-self-inside-2 c =
    let known = subst (λ (t : LiteralTable). c.args.text < t.count) (sym c.self.view_is) c.requires.known in
    let first = subst (λ (t : LiteralTable). object_of t.made c.args.text ≡ None) (sym c.self.view_is) c.requires.first in (
      λ other. subst (λ (made : List (ℕ × ℕ)). object_reported (get_or (set c.self.inside.objects.items c.args.text c.args.object) other 0) ≡ object_of made other) (sym c.in_ok-push.ensures.items)
          (keeps_reported c.self.inside.objects.items c.self.inside.made.items c.args.text c.args.object c.self.inside.reported known c.requires.some first other),
      tt,
    )
