use Rattle.std.proofs.Common.{◌++◌, ◌∙◌}
use Rattle.squall_picture.specs.Picture.{picture_text}
use Rattle.squall_picture.proofs.draw.picture.Goals as goal

pub returns : goal.returns
returns c = record {
  status = c.in_ok-status.status;
  is = c.in_ok-status.ensures;
  drawn = c.in_ok-add_picture.ensures ∙ (λ i. c.new-text.ensures.bytes i ++ picture_text ((c.ranges-old.ensures.value ∙ c.old_plan.ensures.value) i) ((c.ranges-new.ensures.value ∙ c.new_plan.ensures.value) i) c.in_ok-status.status);
}
