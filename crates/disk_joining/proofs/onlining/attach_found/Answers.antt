use Rattle.disk_joining.proofs.onlining.attach_found.Goals as goal

-- what was read is attached
pub attach_image-requires-clause-attached : goal.attach_image-requires-clause-attached
attach_image-requires-clause-attached g c = c.requires.shown c.in-Some-image_of.image.slot c.in-Some-image_of.image.size c.in-Some-image_of.ensures.shown
