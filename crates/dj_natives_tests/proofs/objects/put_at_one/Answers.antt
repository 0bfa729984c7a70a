use Rattle.dj_natives_tests.proofs.StaticCounts.{put_keeps_count}
use Rattle.dj_natives_tests.proofs.objects.put_at_one.Goals as goal

pub returns-in-Some : goal.returns-in-Some
returns-in-Some c = put_keeps_count c.args.kind 1 _ _ _ _ _ c.in-Some.ensures
