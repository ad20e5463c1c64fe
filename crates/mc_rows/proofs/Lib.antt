mod Corners
