use Rattle.schedule.proofs.LayoutNets.{net-of_layout}
use Rattle.schedule.proofs.laws.layouts_make_nets.Goals as goal

pub returns : goal.returns
returns c = net-of_layout
