pub mod NodeJoints
