use Rattle.dj_natives.proofs.call.call_native.Goals as goal

pub returns-in-Some : goal.returns-in-Some
returns-in-Some g c = rw c.in-Some.is c.call_counted.ensures

pub returns-in-None : goal.returns-in-None
returns-in-None g c = rw c.in-None.is c.call_plain.ensures
