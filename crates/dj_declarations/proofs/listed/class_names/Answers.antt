use Rattle.std.proofs.Common.{List, ℕ, ◌+◌, Vec, Global, get_or, take, refl, sym, ap, ◌∙◌, subst, arith}
use Rattle.std.specs.Prelude.{slice_get}
use Rattle.std.specs.Option.{option_map}
use Rattle.std.proofs.lemmas.List.{take_all}
use Rattle.dj_pool.specs.trusted.Pool.{class_name_at}
use Rattle.dj_declarations.specs.Lists.{AreListed}
use Rattle.dj_declarations.proofs.ListLaws.{listed_is, listed_there, listed_by, listed_some, listed_none}
use Rattle.dj_declarations.proofs.listed.class_names.Goals.{in-Some+in_ok-push, in_default}
use Rattle.dj_declarations.proofs.listed.class_names.Goals as goal

pub loop-index-preserved : goal.loop-index-preserved
loop-index-preserved c =
    let old = c.loop-index.copies.names in
    let new = c.copied_class.new.copies.names in
    let i = c.loop-index.index-index in
    let indexes = c.args.indexes.now in
    let name_of = class_name_at c.args.pool.now in
    record {
      copies = c.in_ok-place.ensures.copies;
      listed = elim c.match-branch-3.branch [
        | in-Some+in_ok-push w ↦
            let more = listed_some name_of indexes i (get_or indexes i 0) (omega (arith, c.loop-index-test.true)) refl old new c.loop-index.places.items c.in_ok-place.ensures.keep c.loop-index.invariant.listed w.in-Some.place
            (ap (option_map (slice_get new)) (sym w.in-Some.is) ∙ c.in_ok-place.ensures.place) in
            subst (λ (places : List ℕ). AreListed new places (listed_by name_of (take (i + 1) indexes))) (sym (ap (λ (v : Vec ℕ Global). v.items) w.places-is ∙ w.in_ok-push.ensures.items)) more
        | in_default w ↦
            let same = listed_none name_of indexes i (get_or indexes i 0) (omega (arith, c.loop-index-test.true)) refl old new c.loop-index.places.items c.in_ok-place.ensures.keep c.loop-index.invariant.listed
            (ap (option_map (slice_get new)) (sym w.in_default.is) ∙ c.in_ok-place.ensures.place) in
            subst (λ (places : List ℕ). AreListed new places (listed_by name_of (take (i + 1) indexes))) (sym (ap (λ (v : Vec ℕ Global). v.items) w.places-is)) same
      ];
    }

pub invariant_of-result : goal.invariant_of-result
invariant_of-result c = record { listed = listed_there c.loop-index.copies.names c.loop-index.places.items _ c.loop-index.invariant.listed }

pub returns : goal.returns
returns c =
    listed_is c.loop-index.copies.names c.loop-index.places.items _ c.loop-index.invariant.listed
    ∙ ap (listed_by (class_name_at c.args.pool.now)) (take_all c.loop-index.index-index c.args.indexes.now c.loop-index-test.false)
