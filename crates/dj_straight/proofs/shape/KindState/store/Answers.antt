use Rattle.std.proofs.Common.{◌≡◌, ℕ, List, Option, Some, length, [], ap, sym, ◌∙◌, arith}
use Rattle.dj_names.specs.declared.descriptor.Kind.{Kind}
use Rattle.dj_straight.specs.trusted.Shape.{set_kind, kinds_without_long_before}
use Rattle.dj_straight.specs.Shaping.{Standing, room}
use Rattle.dj_straight.proofs.Shaping.{seam, stored, not_stored, stored_past}
use Rattle.dj_straight.proofs.shape.KindState.store.Goals as goal
use Rattle.dj_straight.proofs.shape.KindState.store.Goals.{then-not-take-via-then-not-take, then-not-take-via-else-not-take+then-from-slots_of}

pub returns-then-not-take-clause-stored : goal.returns-then-not-take-clause-stored
returns-then-not-take-clause-stored c =
    elim c.then-not-take.branch [
      | then-not-take-via-then-not-take w ↦ not_stored (room c.args.self.now) c.args.self.now.kinds c.args.kind c.args.slot (w.if-not-take.ensures.taken [])
      | then-not-take-via-else-not-take+then-from-slots_of w ↦
          stored_past (room c.args.self.now) c.args.self.now.kinds c.take.new.self.kinds.stack c.args.kind c.args.slot
          (w.if-not-take.ensures.taken []) (omega (arith, ap (λ s. s.max_locals) c.self.view_is))
    ]

pub returns-clause-stored : goal.returns-clause-stored
returns-clause-stored c =
    let kind = c.args.kind in
    let old = c.args.self.now.kinds in
    let len : length c.store_kind.new.locals ≡ c.self-2.inside.locals.len = omega arith in
    let before : c.deref_mut.result.now ≡ old.locals =
    c.deref_mut.ensures.value ∙ ap (λ s. s.kinds.locals) c.self-2.view_is ∙ c.take.ensures.locals.0 in
    stored (room c.args.self.now) old _ kind c.args.slot
    (c.if-not-take.ensures.taken [] ∙ ap (λ (s : Standing). Some s.kinds.stack) (sym c.self-2.view_is))
    (omega (arith, ap (λ s. s.max_locals) c.self.view_is))
    (seam c.self-2.inside.locals.len c.store_kind.new.locals _ len ∙ c.store_kind.ensures
    ∙ ap (λ (locals : List (Option Kind)). set_kind (kinds_without_long_before locals c.from-2.result) c.from-2.result kind) before
    ∙ ap (λ (slot : ℕ). set_kind (kinds_without_long_before old.locals slot) slot kind) c.from-2.ensures)
