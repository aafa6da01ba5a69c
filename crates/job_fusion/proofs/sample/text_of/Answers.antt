use Rattle.job_fusion.proofs.Sampled.{table_wide}
use Rattle.job_fusion.proofs.sample.text_of.Goals as goal

pub fusion_text-requires : goal.fusion_text-requires
fusion_text-requires c = table_wide _ c.args.root.now c.args.table.now c.root.view_is c.requires.table c.requires.weighed
