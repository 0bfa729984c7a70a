use Rattle.std.proofs.Common.{◌≡◌, ◌+◌, ◌-◌, ◌≤◌, ℕ, length, sym, ap, ◌∙◌, arith}
use Rattle.dj_names.specs.declared.descriptor.Ty.{Ty}
use Rattle.dj_names.specs.trusted.Descriptors.{type_slots}
use Rattle.dj_names.specs.trusted.DescReading.{params_read}
use Rattle.dj_names.specs.DescReading.{element_of}
use Rattle.dj_names.proofs.DescLaws.{after_all, walk_goes_on}
use Rattle.dj_names.proofs.walk.after_params.Goals as goal

pub loop-preserved : goal.loop-preserved
loop-preserved c =
    let ty : Ty = record { dims = c.in-Some.dims; of = element_of c.in-Some.element } in
    let slots : c.slots_at-slots.result ≡ type_slots (record { dims = c.in-Some.dims; of = element_of c.in-Some.element }) = c.slots_at-slots.ensures in
    let few : c.loop.slots + type_slots (record { dims = c.in-Some.dims; of = element_of c.in-Some.element }) ≤ 255 = omega arith in
    let step = walk_goes_on (length c.args.bytes.now) c.loop.counter c.loop.slots c.loop.rest.now (record { dims = c.in-Some.dims; of = element_of c.in-Some.element }) c.in-Some.after.now (omega arith) (omega arith) c.if-first-eq41.false (sym c.in-Some.ensures) few in
    record {
      few = omega arith;
      reads = ap (λ (n : ℕ). after_all (params_read (length c.args.bytes.now - (c.loop.counter + 1)) (c.loop.slots + n) c.in-Some.after.now)) slots ∙ step ∙ c.loop.invariant.reads;
    }
