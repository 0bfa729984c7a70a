use Rattle.dj_shape.proofs.shaped.shape.Goals as goal

pub returns-in-None : goal.returns-in-None
returns-in-None c = λ found code signature there runs described. absurd (c.in-None.ensures found code there runs)
