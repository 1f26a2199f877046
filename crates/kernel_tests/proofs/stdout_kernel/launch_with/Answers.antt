use Rattle.kernel_tests.proofs.stdout_kernel.launch_with.Goals as goal

pub returns : goal.returns
returns c = record { tree = c.in-Ok.ensures.start; grants = c.requires c.in-Ok.tree }
