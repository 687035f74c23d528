use Rattle.descriptor_queue.proofs.pages.Pages.longest_run.Goals as goal

pub returns : goal.returns
returns c = c.longest.ensures
