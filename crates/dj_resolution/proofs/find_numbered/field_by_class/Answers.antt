use Rattle.std.proofs.Common.{◌<◌, ◌∷◌, ℕ, Option, IfSome, length, ◌∙◌, ap, subst, sym, slice_get}
use Rattle.std.specs.Option.{option_map}
use Rattle.dj_declarations.specs.trusted.Files.{desc_in}
use Rattle.dj_class_table.specs.Tables.{field_there}
use Rattle.dj_resolution.specs.Numbers.{field_found, first_some, numbers_above}
use Rattle.dj_resolution.proofs.Finding.{IsWalked, walk_begun, walked_here, walked_more, walked_off, walked_out, super_within}
use Rattle.dj_resolution.proofs.find_numbered.field_by_class.Goals as goal

pub loop-init : goal.loop-init
loop-init c = (c.requires.there, λ n d h. walk_begun (λ k. first_some (field_found c.args.directory.now.program n (desc_in d)) (k ∷ numbers_above c.args.directory.now.program k)) c.args.directory.now.program c.args.class c.requires.there)

pub returns-in_err-at : goal.returns-in_err-at
returns-in_err-at c n d h =
    ap (option_map (field_there c.args.directory.now.program)) c.from_residual.ensures
    ∙ walked_off (λ k. first_some (field_found c.args.directory.now.program n (desc_in d)) (k ∷ numbers_above c.args.directory.now.program k)) c.args.directory.now.program c.args.class c.loop.counter
    (subst (λ (o : Option ℕ). IsWalked (λ k. first_some (field_found c.args.directory.now.program n (desc_in d)) (k ∷ numbers_above c.args.directory.now.program k)) c.args.directory.now.program c.args.class c.loop.counter o) c.in_err-at.was (c.loop.invariant.1 n d h))

pub field_above-requires-clause-there : goal.field_above-requires-clause-there
field_above-requires-clause-there c = subst (λ (o : Option ℕ). IfSome o (λ k. k < length c.args.directory.now.program)) c.in_ok-at.was c.loop.invariant.0

pub returns-in-Some : goal.returns-in-Some
returns-in-Some c n d h =
    walked_here (λ k. first_some (field_found c.args.directory.now.program n (desc_in d)) (k ∷ numbers_above c.args.directory.now.program k)) c.args.directory.now.program c.args.class c.loop.counter c.in_ok-at.at (field_there c.args.directory.now.program c.in-Some.place)
    (subst (λ (o : Option ℕ). IsWalked (λ k. first_some (field_found c.args.directory.now.program n (desc_in d)) (k ∷ numbers_above c.args.directory.now.program k)) c.args.directory.now.program c.args.class c.loop.counter o) c.in_ok-at.was (c.loop.invariant.1 n d h)) c.loop-test.true (c.in-Some.ensures n d h)

pub loop-preserved : goal.loop-preserved
loop-preserved c = (
  subst (λ (o : Option ℕ). IfSome o (λ k. k < length c.args.directory.now.program)) (sym c.super_of-next.ensures) (super_within c.args.directory.now.program (slice_get c.args.directory.now.program c.in_ok-at.at)),
  λ n d h.
      walked_more (λ k. first_some (field_found c.args.directory.now.program n (desc_in d)) (k ∷ numbers_above c.args.directory.now.program k)) c.args.directory.now.program c.args.class c.loop.counter c.in_ok-at.at c.super_of-next.result
      (subst (λ (o : Option ℕ). IsWalked (λ k. first_some (field_found c.args.directory.now.program n (desc_in d)) (k ∷ numbers_above c.args.directory.now.program k)) c.args.directory.now.program c.args.class c.loop.counter o) c.in_ok-at.was (c.loop.invariant.1 n d h)) c.loop-test.true (c.in_default.ensures n d h) c.super_of-next.ensures,
)

pub returns : goal.returns
returns c n d h = walked_out (λ k. first_some (field_found c.args.directory.now.program n (desc_in d)) (k ∷ numbers_above c.args.directory.now.program k)) c.args.directory.now.program c.args.class c.loop.counter c.loop.next (c.loop.invariant.1 n d h) c.loop-test.false
