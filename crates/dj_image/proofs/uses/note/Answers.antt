use Rattle.std.proofs.Common.{ℕ, Bool, true, ◌∷◌, ◌++◌, [], List, set, Contains, sym, ap, subst, ◌∙◌}
use Rattle.dj_image.specs.Uses.{was_seen, SameMembers, AreSeen}
use Rattle.dj_image.specs.declared.uses.Use.{Use}
use Rattle.dj_image.proofs.UseLists.{same_push, same_known, seen_kept, listed_if_seen}
use Rattle.dj_image.proofs.uses.note.Goals as goal

known : (c : goal.Else-not-see) → Contains c.args.listed.now.items c.args.one
known c = listed_if_seen c.args.seen.now c.args.listed.now.items c.args.one c.requires (sym (ap (was_seen c.args.seen.now) c.use_place.ensures) ∙ sym c.see.ensures.was ∙ c.if-not-see.false)

pub returns-in_ok-push-clause-listed : goal.returns-in_ok-push-clause-listed
returns-in_ok-push-clause-listed c = λ all same.
    subst (λ (items : List Use). SameMembers items (all ++ c.args.one ∷ [])) (sym c.in_ok-push.ensures.items) (same_push c.args.listed.now.items all c.args.one same)

pub returns-else-not-see-clause-seen : goal.returns-else-not-see-clause-seen
returns-else-not-see-clause-seen c =
    subst (λ (seen : List Bool). AreSeen seen c.args.listed.now.items) (sym (c.see.ensures.now ∙ ap (λ (place : ℕ). set c.args.seen.now place true) c.use_place.ensures))
    (seen_kept c.args.seen.now c.args.listed.now.items c.args.one c.requires (known c))

pub returns-else-not-see-clause-listed : goal.returns-else-not-see-clause-listed
returns-else-not-see-clause-listed c = λ all same. same_known c.args.listed.now.items all c.args.one same (known c)
