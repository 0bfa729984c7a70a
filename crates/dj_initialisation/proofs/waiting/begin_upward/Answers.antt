use Rattle.std.proofs.Common.{◌≡◌, ◌<◌, ℕ, Bool, false, true, List, Option, Some, IfSome, sym, subst, ◌∙◌, arith}
use Rattle.dj_model.specs.trusted.Linking.{most_classes}
use Rattle.dj_class_table.specs.Tables.{super_number}
use Rattle.dj_image.specs.Imaged.{program_of}
use Rattle.dj_initialisation.specs.Flags.{has_begun}
use Rattle.dj_initialisation.specs.Waiting.{IsWalked, waiting_count}
use Rattle.dj_initialisation.proofs.FlagLaws.{one_less}
use Rattle.dj_initialisation.proofs.Walks.{walked_begun, walked_more, walked_up, room_above}
use Rattle.dj_initialisation.proofs.PlaceLaws.{names_differ}
use Rattle.dj_initialisation.proofs.waiting.begin_upward.Goals as goal
use Rattle.dj_initialisation.proofs.waiting.begin_upward.Goals.{in-Some+then-has_begun, in_default}

pub loop-next-init : goal.loop-next-init
loop-next-init c =
    let program = program_of c.args.image.now in
    subst (λ (ks : List ℕ). IsWalked program most_classes c.args.class c.args.flags.now c.args.flags.now ks (Some c.args.class)) (sym c.new-path.ensures.items)
    (walked_begun program c.args.class c.args.flags.now c.requires.there c.requires.flags)

pub loop-next-smaller : goal.loop-next-smaller
loop-next-smaller c =
    let none : has_begun c.loop-next.flags c.in-Some.at ≡ false = sym c.has_begun.ensures ∙ c.if-has_begun.false in
    let less = one_less c.loop-next.flags c.in-Some.at none in
    subst (λ (flags : List Bool). waiting_count flags < waiting_count c.loop-next.flags) (sym c.mark.ensures) (omega (arith, less))

pub loop-next-preserved : goal.loop-next-preserved
loop-next-preserved c =
    let program = program_of c.args.image.now in
    let none : has_begun c.loop-next.flags c.in-Some.at ≡ false = sym c.has_begun.ensures ∙ c.if-has_begun.false in
    let walked = subst (λ (o : Option ℕ). IsWalked program most_classes c.args.class c.args.flags.now c.loop-next.flags c.loop-next.path.items o) c.in-Some.is c.loop-next.invariant in
    let more = walked_more program most_classes c.args.class c.args.flags.now c.loop-next.flags c.loop-next.path.items c.push.new.self.items c.in-Some.at walked none
    c.in_ok-push.ensures.items (room_above program c.args.flags.now c.requires.flags) in
    subst (λ (o : Option ℕ). IsWalked program most_classes c.args.class c.args.flags.now c.mark.new.self c.push.new.self.items o) (sym c.super_of-next.ensures)
    (subst (λ (flags : List Bool). IsWalked program most_classes c.args.class c.args.flags.now flags c.push.new.self.items (super_number program c.in-Some.at)) (sym c.mark.ensures) more)

pub returns : goal.returns
returns c =
    let program = program_of c.args.image.now in
    let up = walked_up program c.args.class c.args.flags.now c.loop-next.flags c.loop-next.path.items c.loop-next.next (names_differ program c.requires.formed) c.requires.there c.requires.flags
    c.loop-next.invariant in
    elim c.match-next.branch [
      | in-Some+then-has_begun w ↦ up (subst (λ (o : Option ℕ). IfSome o (λ k. has_begun c.loop-next.flags k ≡ true)) (sym w.in-Some.is) (sym w.has_begun.ensures ∙ w.if-has_begun.true))
      | in_default w ↦ up (subst (λ (o : Option ℕ). IfSome o (λ k. has_begun c.loop-next.flags k ≡ true)) (sym w.in_default.is) tt)
    ]
