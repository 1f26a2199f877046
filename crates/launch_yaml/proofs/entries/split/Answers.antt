use Rattle.launch_yaml.proofs.Splits.{mine_is, after_is}
use Rattle.launch_yaml.proofs.entries.split.Goals as goal

pub returns-clause-mine : goal.returns-clause-mine
returns-clause-mine c = mine_is _ _ _ c.has_items-items.result _ _ _ c.split_at.ensures.front c.count.ensures.value c.has_items-items.ensures

pub returns-clause-after : goal.returns-clause-after
returns-clause-after c = after_is _ _ _ c.has_items-items.result _ _ _ c.split_at.ensures.back c.count.ensures.value c.has_items-items.ensures
