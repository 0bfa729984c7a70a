use Rattle.std.proofs.Common.{◌≡◌, ◌∙◌, map, sym, ap, subst, IfOk}
use Rattle.dj_class.specs.Views.{class_of}
use Rattle.dj_library_types.specs.Views.{library_view}
use Rattle.dj_resolution.specs.Linked.{Linked}
use Rattle.dj_image.specs.Parts.{HasString}
use Rattle.dj_loader.proofs.Strings.{string_there}
use Rattle.dj_loader.proofs.loading.load.Goals as goal

pub image_from-requires-clause-fits : goal.image_from-requires-clause-fits
image_from-requires-clause-fits c = (
  library_view c.args.library.now,
  record {
    is = ap (λ (l : Linked). l.program) c.in_ok-linker.ensures.linked ∙ c.in_ok-table.ensures.table;
    loadable = c.in_ok-table.ensures.loadable;
    few = c.requires.few_members;
  },
)

pub image_from-requires-clause-string : goal.image_from-requires-clause-string
image_from-requires-clause-string c =
    subst (λ (l : Linked). HasString l.program l.prefix) (sym c.in_ok-linker.ensures.linked)
    (string_there (library_view c.args.library.now) (map class_of c.args.views.now) c.in_ok-table.table c.args.base c.in_ok-table.ensures.table c.requires.string)

pub returns-clause-program : goal.returns-clause-program
returns-clause-program c =
    c.image_from.ensures.program (library_view c.args.library.now)
    (record {
      is = ap (λ (l : Linked). l.program) c.in_ok-linker.ensures.linked ∙ c.in_ok-table.ensures.table;
      loadable = c.in_ok-table.ensures.loadable;
      few = c.requires.few_members;
    })

pub returns-clause-prefix : goal.returns-clause-prefix
returns-clause-prefix c = subst (λ (l : Linked). IfOk c.image_from.result (λ image. image.prefix ≡ l.prefix)) c.in_ok-linker.ensures.linked c.image_from.ensures.prefix
