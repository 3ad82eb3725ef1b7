-- Answers of compose_next: what is put behind nothing is put.
use Rattle.version_map.proofs.RowParts.{put_behind}
use Rattle.version_map.proofs.joining.compose_next.Goals as goal
