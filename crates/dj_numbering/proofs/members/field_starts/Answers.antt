use Rattle.std.proofs.Common.{◌≡◌, ℕ, ◌+◌, ◌<◌, length, sym, ap, ◌∙◌, arith}
use Rattle.std.proofs.lemmas.List.{length-map}
use Rattle.dj_model.specs.trusted.Program.{fields_of}
use Rattle.dj_numbering.specs.Members.{fields_in}
use Rattle.dj_numbering.specs.Numbered.{counts_of}
use Rattle.dj_numbering.proofs.Starts.{summed_more, summed_all, count_there, counts_length}
use Rattle.dj_numbering.proofs.members.field_starts.Goals as goal

pub loop-class-preserved : goal.loop-class-preserved
loop-class-preserved c =
    let table = c.args.table.now in
    let lt : c.loop-class.class < length table = let e = c.class_count-class-end.ensures.count in let t = c.loop-class-test.true in omega (arith, e, t) in
    let count : c.field_count.result ≡ _ =
    count_there fields_in table c.loop-class.class c.field_count.result lt (λ class at. c.field_count.ensures ∙ ap (λ o. length (fields_of o)) at ∙ sym (length-map class.fields _)) in
    let long = counts_length fields_in table in
    summed_more (counts_of fields_in table) c.loop-class.class c.loop-class.each.items c.push.new.self.items c.loop-class.total c.in_ok-total.total (omega (arith, lt, long))
    c.loop-class.invariant c.in_ok-push.ensures.items (c.in_ok-total.ensures ∙ ap (λ (n : ℕ). c.loop-class.total + n) count)

pub returns : goal.returns
returns c =
    let table = c.args.table.now in
    let end = c.class_count-class-end.ensures.count in
    let within = c.loop-class.auto.class-end in
    let past = c.loop-class-test.false in
    let long = counts_length fields_in table in
    summed_all (counts_of fields_in table) c.loop-class.class _ (omega (arith, end, within, past, long)) c.loop-class.invariant
